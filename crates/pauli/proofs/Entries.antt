-- The first n entries of the code's arrays, as tables: one law for each kind of loop over them. Assumes nothing.
use mathlib.Core.Path.{◌≡◌, refl, sym, ap, ap₂, ◌∙◌}
use mathlib.Core.Bool.{cond}
use mathlib.Core.List.{List, ◌∷◌, ◌++◌, []}
use Prim.Native.Nat.{ℕ, zero, suc, ◌+◌, ◌*◌, ◌%◌, ◌<◌, ◌≤◌}
use native.Mathlib.Numerals.{add-one}
use native.Mathlib.Omega.{arith}
use lib.Dec.{eqb}
use lib.ListN.{length, get_or, set, replicate, length-set, length-replicate}
use lib.Seq.{get_or-set_same, get_or-set_other, ext_get_or}
use Rattle.arith.specs.Bytes.{tab}
use Rattle.arith.specs.declared.residue.Residue.{Residue}
use Rattle.arith.proofs.Bytes.{tab_none, tab_more, tab_ext, tab_length, tab_at}
use Rattle.arith.proofs.Cases.{by_eq, eqb_case}
use Rattle.pauli.specs.Pauli.{dot, plus}
use Rattle.pauli.specs.Support.{marks, word_of}
use Rattle.pauli.specs.Inner.View.{at, entries}
use Rattle.pauli.specs.Inner.Words.{Joins}
use Rattle.pauli.proofs.Sums.{scaled}
use Rattle.pauli.proofs.Lists.{cons_path}
use Rattle.pauli.proofs.Marks.{word_none, word_next}
use native.Mathlib.Nat.{mul-le-mul}

-- ---- an entry read, and one set
pub entry : {n i : ℕ} (xs : List Residue) → i < n → get_or (entries n xs) i 0 ≡ at xs i
entry {n} {i} xs l = tab_at (at xs) n i 0 l

at_same : (xs : List Residue) (i : ℕ) (x : Residue) → i < length xs → at (set xs i x) i ≡ x.0
at_same xs i x h = ap (λ (r : Residue). r.0) (get_or-set_same xs i x (record { 0 = 0 }) h)

at_other : (xs : List Residue) (i j : ℕ) (x : Residue) → (j ≡ i → ⊥) → at (set xs i x) j ≡ at xs j
at_other xs i j x ne = ap (λ (r : Residue). r.0) (get_or-set_other xs i j x (record { 0 = 0 }) ne)

-- a loop that fills an array: after the store of x at i, those before i are as they were, and f i stands there
fill_before : (xs : List Residue) (i : ℕ) (x : Residue) → entries i (set xs i x) ≡ entries i xs
fill_before xs i x = tab_ext (at (set xs i x)) (at xs) i (λ j l. at_other xs i j x (λ q. omega arith))

pub fill_more : (f : ℕ → ℕ) (xs : List Residue) (i : ℕ) (x : Residue) → i < length xs → x.0 ≡ f i → entries i xs ≡ tab f i → entries (i + 1) (set xs i x) ≡ tab f (i + 1)
fill_more f xs i x h e p = tab_more (at (set xs i x)) i ∙ ap₂ (λ (l : List ℕ) (y : ℕ). l ++ (y ∷ [])) (fill_before xs i x ∙ p) (at_same xs i x h ∙ e) ∙ sym (tab_more f i)

-- a loop that fills two arrays of 16 and makes their support word: what those before place i hold, whatever f and g the entries are given by, and the word is theirs
pub record Filled (Given : (ℕ → ℕ) → (ℕ → ℕ) → Type 0) (i : ℕ) (v w : List Residue) (word : ℕ) : Type 0 where
  pub v_places : length v ≡ 16
  pub w_places : length w ≡ 16
  pub v_filled : (f g : ℕ → ℕ) → Given f g → entries i v ≡ tab f i
  pub w_filled : (f g : ℕ → ℕ) → Given f g → entries i w ≡ tab g i
  pub word_made : word ≡ word_of (marks (entries i v) (entries i w))

module _ {Given : (ℕ → ℕ) → (ℕ → ℕ) → Type 0} where
  pub filled_none : {v w : List Residue} → length v ≡ 16 → length w ≡ 16 → Filled Given 0 v w 0
  filled_none h k = record { v_places = h; w_places = k; v_filled = λ f g s. tab_none _ ∙ sym (tab_none f); w_filled = λ f g s. tab_none _ ∙ sym (tab_none g); word_made = sym (word_none _ _) }

  pub filled_more : (i : ℕ) {v w : List Residue} {word next : ℕ} (x z : Residue) → i < 16 → ((f g : ℕ → ℕ) → Given f g → (x.0 ≡ f i) × (z.0 ≡ g i)) → Joins word i x.0 z.0 next
      → Filled Given i v w word → Filled Given (i + 1) (set v i x) (set w i z) next
  filled_more i {v} {w} x z l e m h =
      let k : i < length v = omega (arith, h.v_places) in
      let j : i < length w = omega (arith, h.w_places) in
      record {
        v_places = simp length-set h.v_places;
        w_places = simp length-set h.w_places;
        v_filled = λ f g s. fill_more f v i x k (e f g s).0 (h.v_filled f g s);
        w_filled = λ f g s. fill_more g w i z j (e f g s).1 (h.w_filled f g s);
        word_made = word_next (at (set v i x)) (at (set w i z)) i x.0 z.0 (sym (at_same v i x k)) (sym (at_same w i z j)) (h.word_made ∙ ap word_of (sym (ap₂ marks (fill_before v i x) (fill_before w i z)))) m;
      }

  -- the word is that of the arrays
  pub filled_word : {i word : ℕ} {v w : List Residue} → Filled Given i v w word → word ≡ word_of (marks (entries i v) (entries i w))
  filled_word h = h.word_made

-- one entry set, of the array and of the list that it stands for
pub entries_set : (n : ℕ) (xs : List Residue) (i : ℕ) (x : Residue) → i < length xs → entries n (set xs i x) ≡ set (entries n xs) i x.0
entries_set n xs i x h = ext_get_or 0 (entries n (set xs i x)) (set (entries n xs) i x.0) (tab_length _ n ∙ sym (length-set (entries n xs) i x.0 ∙ tab_length _ n)) at_each
  where
    inside : {j : ℕ} → j < length (entries n (set xs i x)) → j < n
    inside l = omega (arith, tab_length (at (set xs i x)) n)

    at_each : (j : ℕ) → j < length (entries n (set xs i x)) → get_or (entries n (set xs i x)) j 0 ≡ get_or (set (entries n xs) i x.0) j 0
    at_each j l = entry (set xs i x) (inside l) ∙ by_eq j i
        (λ e. rw e (at_same xs i x h ∙ sym (get_or-set_same (entries n xs) i x.0 0 (omega (arith, inside l, tab_length (at xs) n)))))
        (λ ne. at_other xs i j x ne ∙ sym (entry xs (inside l)) ∙ sym (get_or-set_other (entries n xs) i j x.0 0 ne))

-- the same, entry by entry
pub set_tab : (n : ℕ) (xs : List Residue) (i : ℕ) (x : Residue) → i < length xs → tab (λ p. cond (eqb p i) x.0 (at xs p)) n ≡ set (entries n xs) i x.0
set_tab n xs i x h = tab_ext _ _ n (λ p l. eqb_case (λ b. cond b x.0 (at xs p) ≡ at (set xs i x) p) p i (λ e. rw e (sym (at_same xs i x h))) (λ ne. sym (at_other xs i p x ne))) ∙ entries_set n xs i x h

-- ---- zeros
pub tab_zero : (f : ℕ → ℕ) (n : ℕ) → ((i : ℕ) → f i ≡ 0) → tab f n ≡ replicate n 0
unfolding tab
tab_zero f zero h = refl
tab_zero f (suc n) h = cons_path (h 0) (tab_zero (λ i. f (suc i)) n (λ i. h (suc i)))

zeros_at : (m i : ℕ) → at (replicate m (record { 0 = 0 })) i ≡ 0
zeros_at zero i = refl
zeros_at (suc m) zero = refl
zeros_at (suc m) (suc i) = zeros_at m i

pub entries_zeros : (m n : ℕ) → entries n (replicate m (record { 0 = 0 })) ≡ replicate n 0
entries_zeros m n = tab_zero _ n (zeros_at m)

-- one 1 among zeros
pub entries_one : (m n i : ℕ) → i < m → entries n (set (replicate m (record { 0 = 0 })) i (record { 0 = 1 })) ≡ set (replicate n 0) i 1
entries_one m n i h = entries_set n (replicate m (record { 0 = 0 })) i (record { 0 = 1 }) (rw length-replicate h) ∙ ap (λ (l : List ℕ). set l i 1) (entries_zeros m n)

-- ---- sums of products
dot_suc : (f g : ℕ → ℕ) (n : ℕ) → dot (tab f (suc n)) (tab g (suc n)) ≡ dot (tab f n) (tab g n) + f n * g n
unfolding tab
dot_suc f g zero = omega arith
dot_suc f g (suc n) = let e = dot_suc (λ i. f (suc i)) (λ i. g (suc i)) n in omega (arith, e)

-- none yet, and one more
pub dot_start : (f g : ℕ → ℕ) → dot (tab f 0) (tab g 0) ≡ 0
unfolding tab
dot_start f g = refl

pub dot_more : (f g : ℕ → ℕ) (n : ℕ) → dot (tab f (n + 1)) (tab g (n + 1)) ≡ dot (tab f n) (tab g n) + f n * g n
dot_more f g n = rw (add-one n) (dot_suc f g n)

-- ---- sums and multiples, entry by entry
pub plus_tab : (d : ℕ) (f g : ℕ → ℕ) (n : ℕ) → plus d (tab f n) (tab g n) ≡ tab (λ i. (f i + g i) % d) n
unfolding tab
plus_tab d f g zero = refl
plus_tab d f g (suc n) = cons_path refl (plus_tab d (λ i. f (suc i)) (λ i. g (suc i)) n)

pub scaled_tab : (d k : ℕ) (f : ℕ → ℕ) (n : ℕ) → scaled d k (tab f n) ≡ tab (λ i. k * f i % d) n
unfolding tab
scaled_tab d k f zero = refl
scaled_tab d k f (suc n) = cons_path refl (scaled_tab d k (λ i. f (suc i)) n)

-- ---- the product of two 16-bit numbers
pub product_below : (a b : ℕ) → a < 65536 → b < 65536 → a * b < 4294967296
product_below a b ha hb = let h : a ≤ 65535 = omega arith in let k : b ≤ 65535 = omega arith in omega (arith, mul-le-mul h k)
