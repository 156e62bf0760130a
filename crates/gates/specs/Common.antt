-- Which qudits a list uses, and lists that have no qudit in common (document 02, P9). Qudits count from 0 here.
use Rattle.std.specs.Prelude.{◌≡◌, Bool, true, false, not, ◌&&◌, ◌||◌, List, [], ◌∷◌, ℕ}
use Rattle.gates.specs.Row.{Row, qudits_of, uses}

-- whether a list uses qudit q: whether one of its rows does
abbrev pub list_uses : List Row → ℕ → Bool
list_uses [] q = false
list_uses (r ∷ rs) q = uses r q || list_uses rs q

-- two lists have no qudit in common: none is used by both
abbrev pub NoneInCommon : List Row → List Row → Type 0
NoneInCommon xs ys = (q : ℕ) → list_uses xs q ≡ true → list_uses ys q ≡ true → ⊥

-- ---- the same as a test. `common_test` of proofs/Common: it passes exactly when they have none
-- whether a list uses none of these qudits
abbrev pub uses_none : List Row → List ℕ → Bool
uses_none ys [] = true
uses_none ys (q ∷ qs) = not (list_uses ys q) && uses_none ys qs

-- whether a list uses none of the qudits of another's rows
abbrev pub none_in_common : List Row → List Row → Bool
none_in_common [] ys = true
none_in_common (x ∷ xs) ys = uses_none ys (qudits_of x) && none_in_common xs ys
