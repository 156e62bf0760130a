-- What the loops over the columns keep: a definition at the whole tableau is the same definition at the columns that are left. Assumes nothing.
use mathlib.Core.Path.{◌≡◌, refl, sym, ap, ap₂, ◌∙◌}
use mathlib.Core.List.{List, ◌∷◌, ◌++◌, map}
use mathlib.Core.Bool.{Bool, true, false, ◌&&◌}
use Prim.Native.Nat.{ℕ, zero, suc, ◌+◌, ◌*◌, ◌-◌, ◌%◌, ◌≤◌, ◌<◌}
use native.Mathlib.Nat.{zero-add, not-suc-le-zero}
use native.Mathlib.Numerals.{add-one}
use native.Mathlib.Omega.{arith}
use lib.ListN.{length, get_or, take, drop, drop_of_length-le, get_or-append}
use lib.Seq.{drop-cons, get_or-append-add}
use Rattle.arith.specs.Bytes.{tab}
use Rattle.arith.proofs.Bytes.{tab_length, tab_at, tab_ext, tab_list, tab_map}
use Rattle.arith.specs.Refusals.{or_else, number_of, pairing_of}
use denote.Param.Members.{Mut}
use Rattle.std.specs.Prelude.{Result, Ok, Err}
use Rattle.std.specs.declared.ops.Range.{Range}
use Rattle.std.specs.Fn.{Called}
use Rattle.std.specs.Iterator.{ChecksAll}
use Rattle.std.specs.List.{list_all, range_with_len}
use Rattle.std.proofs.iter.Yields.{nat_range_steps}
use Rattle.std.proofs.lemmas.Iterator.{YieldsList-from_range}
use Rattle.std.proofs.lemmas.Iterator.Search.{all_from_yields_List}
use Rattle.arith.specs.declared.checks.Refusal.{Refusal}
use Rattle.arith.proofs.Refusals.{good, stop, not_zero}
use Rattle.arith.specs.Residues.{neg}
use Rattle.pauli.specs.Pauli.{Pauli, product, power, phase_only, unit, comm}
use Rattle.pauli.proofs.Ranges.{pauli_path}
use Rattle.pauli.specs.Range.{pauli_range_of}
use Rattle.tableau.specs.Tableau.{up_from, column, multiplied, image, compose}
use Rattle.tableau.specs.Inverse.{drawn, preimage, inverse}
use Rattle.tableau.specs.Bytes.{column_at}
use Rattle.tableau.specs.Range.{tableau_range_of}
use Rattle.tableau.specs.Inner.Parts.{paulis_at}
use Rattle.tableau.specs.Soundness.{all}

-- ---- ranges: column j, then those after it
pub ranges_step : (d n : ℕ) (t : List Pauli) (j : ℕ) → j < length t → tableau_range_of d (drop j t) ≡ or_else (pauli_range_of d (column n t j)) (tableau_range_of d (drop (j + 1) t))
unfolding tableau_range_of
ranges_step d n t j h = rw (add-one j, drop-cons t j (phase_only n 0) h) refl

pub ranges_end : (d : ℕ) (t : List Pauli) (j : ℕ) → length t ≤ j → tableau_range_of d (drop j t) ≡ 0
unfolding tableau_range_of
ranges_end d t j h = rw (drop_of_length-le t h) refl

-- a loop that tests the Paulis of a list one after the other, where those from j on decide: it refuses at j, goes on after j, or has passed all
pub ranges_refuse : (d n : ℕ) (t : List Pauli) (j : ℕ) {A : Type 0} {k : Refusal} {r : Result A Refusal} → j < length t → tableau_range_of d t ≡ tableau_range_of d (drop j t) → number_of r ≡ pauli_range_of d (column n t j) → r ≡ Err k → number_of r ≡ tableau_range_of d t
ranges_refuse d n t j h i e g = rw (i ∙ ranges_step d n t j h) (stop _ _ e g).same

pub ranges_pass_one : (d n : ℕ) (t : List Pauli) (j : ℕ) {A : Type 0} {a : A} {r : Result A Refusal} → j < length t → tableau_range_of d t ≡ tableau_range_of d (drop j t) → number_of r ≡ pauli_range_of d (column n t j) → r ≡ Ok a → tableau_range_of d t ≡ tableau_range_of d (drop (j + 1) t)
ranges_pass_one d n t j h i e g = rw (good _ e g) at (i ∙ ranges_step d n t j h)

pub ranges_pass_all : (d : ℕ) (t : List Pauli) (j : ℕ) → length t ≤ j → tableau_range_of d t ≡ tableau_range_of d (drop j t) → 0 ≡ tableau_range_of d t
ranges_pass_all d t j h i = sym (i ∙ ranges_end d t j h)

-- Pauli j of m in bytes
pub batch_at : (n : ℕ) (b : List ℕ) (m j : ℕ) → j < m → column n (paulis_at n b m) j ≡ column_at n j b
batch_at n b m j h = tab_at (λ i. column_at n i b) m j (phase_only n 0) h

pub batch_length : (n : ℕ) (b : List ℕ) (m : ℕ) → length (paulis_at n b m) ≡ m
batch_length n b m = tab_length (λ j. column_at n j b) m

-- the range of the first of m Paulis: there is none, or it is the first
pub first_none : (d n : ℕ) (b : List ℕ) (m : ℕ) → m ≡ 0 → tableau_range_of d (take 1 (paulis_at n b m)) ≡ 0
unfolding tab tableau_range_of
first_none d n b m e = rw e refl

pub first_some : (d n : ℕ) (b : List ℕ) (m : ℕ) → 0 < m → tableau_range_of d (take 1 (paulis_at n b m)) ≡ tableau_range_of d (paulis_at n b 1)
unfolding tab
first_some d n b zero h = absurd (not-suc-le-zero h)
first_some d n b (suc m) h = refl

-- ---- tests of the numbers from 0 up to m, before the first turn
pub all_start : (test : ℕ → Bool) (m : ℕ) → all test (up_from 0 m) ≡ all test (up_from 0 (m - 0))
all_start test m = let e : m - 0 ≡ m = omega arith in rw e refl

-- ---- a test of each number from k up to below m, by std's `all` over the range
module _ (test : ℕ → Bool) where
  listed : (k m : ℕ) → list_all test (range_with_len k m) ≡ all test (up_from k m)
  listed k zero = refl
  listed k (suc m) = ap (λ (b : Bool). test k && b) (listed (k + 1) m ∙ ap (λ (i : ℕ). all test (up_from i m)) (add-one k))

  pub all_tested : {F : Type 0} {g : Mut F (ℕ × Unit {0}) Bool} {s : Range ℕ} (k m : ℕ) (u : Range ℕ) (f : F) (r : Bool) → ChecksAll nat_range_steps g s f r u → s ≡ record { start = k; end = m }
      → ((x : ℕ) (b : Bool) (q : F) → Called g f (x, tt) b q → (q ≡ f) × (b ≡ test x)) → r ≡ all test (up_from k (m - k))
  all_tested k m u f r ran e h = all_from_yields_List test u f r ran (YieldsList-from_range k m (m - k) e refl) h ∙ listed k (m - k)

  -- from 0 on
  pub all_from_zero : {F : Type 0} {g : Mut F (ℕ × Unit {0}) Bool} {s : Range ℕ} (m : ℕ) (u : Range ℕ) (f : F) (r : Bool) → ChecksAll nat_range_steps g s f r u → s ≡ record { start = 0; end = m }
      → ((x : ℕ) (b : Bool) (q : F) → Called g f (x, tt) b q → (q ≡ f) × (b ≡ test x)) → r ≡ all test (up_from 0 m)
  all_from_zero m u f r ran e h = let same : m - 0 ≡ m = omega arith in all_tested 0 m u f r ran e h ∙ ap (λ (i : ℕ). all test (up_from 0 i)) same

-- ---- products of powers: column j to its power, then those after it
pub multiplied_next : (d n : ℕ) (x : Pauli) {y whole : Pauli} (t : List Pauli) (ks : List ℕ) (j : ℕ) → j < length t → j < length ks
    → y ≡ product d x (power d n (column n t j) (get_or ks j 0)) → whole ≡ multiplied d n x (drop j t) (drop j ks) → whole ≡ multiplied d n y (drop (j + 1) t) (drop (j + 1) ks)
multiplied_next d n x t ks j h l e p = p ∙ rw (e, add-one j, drop-cons t j (phase_only n 0) h, drop-cons ks j 0 l) refl

pub multiplied_end : (d n : ℕ) (x : Pauli) (t : List Pauli) (ks : List ℕ) (j : ℕ) → length t ≤ j → multiplied d n x (drop j t) (drop j ks) ≡ x
multiplied_end d n x t ks j h = rw (drop_of_length-le t h) refl

-- ---- what an answer of the pairing test says of the test
pub pairing_failed : (holds : Bool) {A : Type 0} {k : Refusal} {r : Result A Refusal} → number_of r ≡ pairing_of holds → r ≡ Err k → holds ≡ false
unfolding pairing_of
pairing_failed true e g = absurd (not_zero e g)
pairing_failed false e g = refl

-- ---- the power of column j: v at j, then w at j − n
pub power_v : (n j : ℕ) (f g : ℕ → ℕ) → j < n → f j ≡ get_or (tab f n ++ tab g n) j 0
power_v n j f g h = sym (get_or-append (tab f n) (tab g n) 0 j (omega (arith, tab_length f n)) ∙ tab_at f n j 0 h)

pub power_w : (n j : ℕ) (f g : ℕ → ℕ) → n ≤ j → j < 2 * n → g (j - n) ≡ get_or (tab f n ++ tab g n) j 0
power_w n j f g l h =
    let e : j ≡ length (tab f n) + (j - n) = omega (arith, tab_length f n) in
    sym (ap (λ (i : ℕ). get_or (tab f n ++ tab g n) i 0) e ∙ get_or-append-add (tab f n) (tab g n) (j - n) 0 ∙ tab_at g n (j - n) 0 (omega arith))

-- ---- tables of what is listed by number
table_from : {A : Type 0} (f : ℕ → A) (k m : ℕ) → map f (up_from k m) ≡ tab (λ i. f (k + i)) m
unfolding tab
table_from f k zero = refl
table_from {A} f k (suc m) =
    ap₂ (λ (x : A) (l : List A). x ∷ l) (ap f (omega arith)) (table_from f (suc k) m ∙ tab_ext _ _ m (λ i h. ap f (omega arith)))

pub table : {A : Type 0} (f : ℕ → A) (m : ℕ) → map f (up_from 0 m) ≡ tab f m
table f m = table_from f 0 m ∙ tab_ext _ f m (λ i h. ap f (zero-add i))

-- ---- the columns of a tableau that is written, by their numbers
pub compose_table : (d n m : ℕ) (t u : List Pauli) → length t ≡ m → compose d n t u ≡ tab (λ j. image d n u (column n t j)) m
compose_table d n m t u e =
    ap (map (image d n u)) (sym (ap (tab (column n t)) (sym e) ∙ tab_list (phase_only n 0) t)) ∙ tab_map (image d n u) (column n t) m

pub inverse_table : (d n : ℕ) (t : List Pauli) → inverse d n t ≡ tab (λ j. preimage d n t (unit n j)) (2 * n)
inverse_table d n t = ap (map (preimage d n t)) (table (unit n) (2 * n)) ∙ tab_map (preimage d n t) (unit n) (2 * n)

-- ---- the entries that a tableau carries to q, by their numbers
pub drawn_table : (d n : ℕ) (t : List Pauli) (q : Pauli) → drawn d n t q ≡ record { phase = 0; v = tab (λ i. neg d (comm d q (column n t (n + i))) % d) n; w = tab (λ i. comm d q (column n t i)) n }
drawn_table d n t q = pauli_path refl (table (λ i. neg d (comm d q (column n t (n + i))) % d) n) (table (λ i. comm d q (column n t i)) n)
