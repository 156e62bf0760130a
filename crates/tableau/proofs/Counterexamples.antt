-- Comparing lists, by computing: two lists that have one tableau, and two that have not; then, for each premise of the three theorems of specs/Comparing, a case in which it fails and the conclusion with it.
use mathlib.Core.Path.{◌≡◌, refl, sym, ap, ◌∙◌}
use mathlib.Core.Bool.{Bool, true, false, true≢false}
use mathlib.Core.List.{List, [], ◌∷◌, map}
use mathlib.Core.Logic.{◌≢◌}
use Prim.Native.Nat.{ℕ, ◌*◌, ◌<◌}
use native.Mathlib.Omega.{arith}
use lib.Dec.{eqb}
use lib.ListN.{length, get_or}
use Rattle.arith.specs.Bytes.{tab, number_at}
use Rattle.arith.specs.Residues.{neg}
use Rattle.arith.specs.Gcd.{gcd, euclid}
use Rattle.arith.specs.Units.{inverse_of, first_below}
use Rattle.pauli.specs.Pauli.{Pauli, none, more, InRange, dot, comm, unit}
use Rattle.pauli.proofs.Frame.{frame_f}
use Rattle.pauli.proofs.Ranges.{v_less, w_less}
use Rattle.pauli.proofs.Hom.{bare}
use Rattle.pauli.proofs.Units.{unit_range}
use Rattle.gates.specs.Row.{Row, F, S, A, M, X, Z, C, W, run}
use Rattle.gates.specs.Ticks.{largest, tick_of, after_row, row_ticks, ticks}
use Rattle.gates.specs.Common.{none_in_common}
use Rattle.gates.specs.Written.{legal_row, all_rows, all_legal_rows, written}
use Rattle.tableau.specs.Tableau.{tableau_of}
use Rattle.tableau.specs.Bytes.{decode_tableau}
use Rattle.tableau.specs.Comparing.{CarryAlike, KeepsCommutation}

-- whether a list is legal, as the calls test it
abbrev legal : ℕ → ℕ → List Row → Bool
legal d n rows = all_legal_rows d n (map written rows)

-- a Pauli on one qudit: phase, v, w
abbrev one_qudit : ℕ → ℕ → ℕ → Pauli
one_qudit h x z = record { phase = h; v = x ∷ []; w = z ∷ [] }

one_in_range : {d h x z : ℕ} → h < 2 * d → x < d → z < d → InRange d 1 (one_qudit h x z)
one_in_range l m k = record { phase_below = l; v_length = refl; w_length = refl; v_below = more m none; w_below = more k none }

-- a Pauli that two lists carry to different phases
told_apart : {d n : ℕ} (xs ys : List Row) (p : Pauli) (h : ℕ) → InRange d n p → eqb (run d xs p).phase h ≡ true → eqb (run d ys p).phase h ≡ false → ¬ CarryAlike d n xs ys
told_apart xs ys p h r e f alike = true≢false (sym e ∙ ap (λ (q : Pauli). eqb q.phase h) (alike p r) ∙ f)

-- ---- what is lost: C and three other rows have one tableau; the first is 1 row in 1 tick, the others are 3 rows in 3 ticks
pub record OneTableau (d n : ℕ) (xs ys : List Row) : Type 0 where
  pub both_legal : (legal d n xs ≡ true) × (legal d n ys ≡ true)
  pub equal : tableau_of d n xs ≡ tableau_of d n ys

pub c_and_three : OneTableau 4 2 (C 0 1 3 ∷ []) (F 1 1 ∷ A 0 1 1 ∷ F 1 3 ∷ [])
unfolding neg legal_row all_rows
c_and_three = record { both_legal = (refl, refl); equal = refl }

pub their_counts : (length {A = Row} (C 0 1 3 ∷ []) ≡ 1) × (ticks (C 0 1 3 ∷ []) ≡ 1) × (length {A = Row} (F 1 1 ∷ A 0 1 1 ∷ F 1 3 ∷ []) ≡ 3) × (ticks (F 1 1 ∷ A 0 1 1 ∷ F 1 3 ∷ []) ≡ 3)
unfolding largest tick_of after_row row_ticks ticks
their_counts = (refl, refl, refl, refl)

-- ---- what is not lost: at d = 4 the tableaus of S with power d and of the empty list differ; as `phases_needed` says, in a phase alone
abbrev first_phase : List Pauli → ℕ
first_phase [] = 0
first_phase (c ∷ cs) = c.phase

pub s_power_d : tableau_of 4 1 (S 0 4 ∷ []) ≢ tableau_of 4 1 []
s_power_d e = true≢false (ap (λ (t : List Pauli). eqb (first_phase t) 4) e)

-- ---- theorem 1: equal tableaus exactly when every Pauli in range is carried alike
-- equal entries are not enough, the phases must be equal too
pub phases_needed : (legal 4 1 (S 0 4 ∷ []) ≡ true) × (map bare (tableau_of 4 1 (S 0 4 ∷ [])) ≡ map bare (tableau_of 4 1 [])) × ¬ CarryAlike 4 1 (S 0 4 ∷ []) []
unfolding legal_row all_rows
phases_needed = (refl, refl, told_apart (S 0 4 ∷ []) [] (unit 1 0) 4 (unit_range 4 1 0 (omega arith)) refl refl)

-- both lists are legal: C with one qudit twice isn't. It has the tableau of S and Z, but carries the Pauli with v = 2 to another phase
pub legal_needed : (legal 3 1 (C 0 0 1 ∷ []) ≡ false) × (legal 3 1 (S 0 1 ∷ Z 0 2 ∷ []) ≡ true) × (tableau_of 3 1 (C 0 0 1 ∷ []) ≡ tableau_of 3 1 (S 0 1 ∷ Z 0 2 ∷ [])) × ¬ CarryAlike 3 1 (C 0 0 1 ∷ []) (S 0 1 ∷ Z 0 2 ∷ [])
unfolding legal_row all_rows
legal_needed = (refl, refl, refl, told_apart (C 0 0 1 ∷ []) (S 0 1 ∷ Z 0 2 ∷ []) (one_qudit 0 2 0) 2 (one_in_range (omega arith) (omega arith) (omega arith)) refl refl)

-- Paulis in range: the empty list leaves a phase of 9 as it is, two X rows that undo each other make 1 of it
pub range_needed : (legal 4 1 (X 0 1 ∷ X 0 3 ∷ []) ≡ true) × (tableau_of 4 1 (X 0 1 ∷ X 0 3 ∷ []) ≡ tableau_of 4 1 []) × (run 4 (X 0 1 ∷ X 0 3 ∷ []) (one_qudit 9 0 0) ≡ one_qudit 1 0 0) × (run 4 [] (one_qudit 9 0 0) ≡ one_qudit 9 0 0)
unfolding neg legal_row all_rows
range_needed = (refl, refl, refl, refl)

-- d above 1: for d = 1 all entries in range are 0, so that F leaves every such Pauli alone; but it changes the unit Paulis, whose entry 1 isn't in range
abbrev sum_of_v : List Pauli → ℕ
sum_of_v [] = 0
sum_of_v (c ∷ cs) = dot (1 ∷ 1 ∷ []) c.v

pub dimension_needed : (legal 1 1 (F 0 1 ∷ []) ≡ true) × CarryAlike 1 1 (F 0 1 ∷ []) [] × (tableau_of 1 1 (F 0 1 ∷ []) ≢ tableau_of 1 1 [])
unfolding neg legal_row all_rows
dimension_needed = (
  refl,
  λ p r. frame_f 0 1 (omega arith) r (record { v_zero = omega (arith, v_less r 0); w_zero = omega (arith, w_less r 0) }),
  λ e. true≢false (ap (λ (t : List Pauli). eqb (sum_of_v t) 0) e),
)

-- ---- theorem 2: commutation numbers are kept
-- by legal lists: M with a power that isn't a unit makes 0 of that of X and Z
pub legal_keeps : (legal 4 1 (M 0 2 ∷ []) ≡ false) × ¬ KeepsCommutation 4 1 (M 0 2 ∷ [])
unfolding neg legal_row all_rows gcd euclid inverse_of first_below
legal_keeps = (refl, λ keeps. true≢false (ap (eqb 0) (keeps (unit 1 0) (unit 1 1) (unit_range 4 1 0 (omega arith)) (unit_range 4 1 1 (omega arith)))))

-- of Paulis in range: one that has no entry w
abbrev short : Pauli
short = record { phase = 0; v = 1 ∷ []; w = [] }

pub range_keeps : (legal 4 1 (F 0 1 ∷ []) ≡ true) × (comm 4 short (unit 1 1) ≡ 3) × (comm 4 (run 4 (F 0 1 ∷ []) short) (run 4 (F 0 1 ∷ []) (unit 1 1)) ≡ 0)
unfolding neg legal_row all_rows
range_keeps = (refl, refl, refl)

-- ---- theorem 3: one tableau in either order, of lists with no qudit in common
-- not of F and S on one qudit, nor of A and F that have the second qudit of A in common
pub common_needed : (none_in_common (F 0 1 ∷ []) (S 0 1 ∷ []) ≡ false) × (tableau_of 2 1 (F 0 1 ∷ S 0 1 ∷ []) ≢ tableau_of 2 1 (S 0 1 ∷ F 0 1 ∷ []))
unfolding neg
common_needed = (refl, λ e. true≢false (ap (λ (t : List Pauli). eqb (first_phase t) 0) e))

pub second_needed : (none_in_common (A 0 1 1 ∷ []) (F 1 1 ∷ []) ≡ false) × (tableau_of 2 2 (A 0 1 1 ∷ F 1 1 ∷ []) ≢ tableau_of 2 2 (F 1 1 ∷ A 0 1 1 ∷ []))
unfolding neg
second_needed = (refl, λ e. true≢false (ap (λ (t : List Pauli). eqb (sum_of_v t) 1) e))

-- the test on lists of all kinds: of qudits 0, 1 and 3, and of 2 and 4; with qudit 3 as the second one of A and of C; the empty list has no qudit in common with any
pub tested : (none_in_common (F 0 1 ∷ A 1 3 2 ∷ W 3 0 ∷ S 1 1 ∷ []) (C 2 4 1 ∷ M 2 3 ∷ X 4 1 ∷ Z 2 1 ∷ []) ≡ true)
    × (none_in_common (F 0 1 ∷ A 1 3 2 ∷ []) (Z 2 1 ∷ C 2 3 1 ∷ []) ≡ false) × (none_in_common [] (F 0 1 ∷ []) ≡ true) × (none_in_common (F 0 1 ∷ []) [] ≡ true)
tested = (refl, refl, refl, refl)

-- ---- stored tableaus are bytes: with a number above 255 in a byte's place the tableau of Z with power 128, d = 200, could be stored in two ways
abbrev rest : List ℕ
rest = 1 ∷ 0 ∷ 0 ∷ 0 ∷ 0 ∷ 0 ∷ 0 ∷ 0 ∷ 1 ∷ 0 ∷ []

pub bytes_needed : (decode_tableau 1 (0 ∷ 1 ∷ rest) ≡ tableau_of 200 1 (Z 0 128 ∷ [])) × (decode_tableau 1 (256 ∷ 0 ∷ rest) ≡ tableau_of 200 1 (Z 0 128 ∷ [])) × (0 ∷ 1 ∷ rest ≢ 256 ∷ 0 ∷ rest)
unfolding tab number_at decode_tableau
bytes_needed = (refl, refl, λ e. true≢false (ap (λ (b : List ℕ). eqb (get_or b 0 0) 0) e))
