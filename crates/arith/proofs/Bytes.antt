-- Laws of tables and of numbers in bytes: one for each kind of loop that reads or writes a run of numbers. Assumes nothing.
use mathlib.Core.Path.{◌≡◌, refl, sym, ap, ap₂, ◌∙◌}
use mathlib.Core.List.{List, [], ◌∷◌, ◌++◌, map}
use Prim.Native.Nat.{ℕ, zero, suc, ◌+◌, ◌*◌, ◌/◌, ◌%◌, ◌≤◌, ◌<◌, suc-le-suc}
use native.Mathlib.Nat.{zero-lt-suc, zero-add, suc-add, add-suc, add-zero, le_of_suc-le-suc, not-suc-le-zero, mod-add-div'}
use native.Mathlib.Numerals.{add-one}
use native.Mathlib.Omega.{arith}
use lib.ListN.{length, get_or, set, drop}
use lib.Seq.{sets, sets-eq}
use Rattle.arith.specs.Bytes.{tab, number_at, bytes_of, front}

-- ---- tables
module _ {A : Type 0} where
  pub tab_none : (f : ℕ → A) → tab f 0 ≡ []
  unfolding tab
  tab_none f = refl

  tab_suc : (f : ℕ → A) (n : ℕ) → tab f (suc n) ≡ tab f n ++ (f n ∷ [])
  unfolding tab
  tab_suc f zero = refl
  tab_suc f (suc n) = ap (λ (l : List A). f 0 ∷ l) (tab_suc (λ i. f (suc i)) n)

  -- one entry more, at the end and at the front
  pub tab_more : (f : ℕ → A) (n : ℕ) → tab f (n + 1) ≡ tab f n ++ (f n ∷ [])
  tab_more f n = rw (add-one n) (tab_suc f n)

  pub tab_cons : (f : ℕ → A) (n : ℕ) → tab f (suc n) ≡ f 0 ∷ tab (λ i. f (suc i)) n
  unfolding tab
  tab_cons f n = refl

  pub tab_length : (f : ℕ → A) (n : ℕ) → length (tab f n) ≡ n
  unfolding tab
  tab_length f zero = refl
  tab_length f (suc n) = ap suc (tab_length (λ i. f (suc i)) n)

  pub tab_at : (f : ℕ → A) (n i : ℕ) (a : A) → i < n → get_or (tab f n) i a ≡ f i
  unfolding tab
  tab_at f zero i a h = absurd (not-suc-le-zero h)
  tab_at f (suc n) zero a h = refl
  tab_at f (suc n) (suc i) a h = tab_at (λ j. f (suc j)) n i a (le_of_suc-le-suc h)

  -- equal entries, equal tables
  pub tab_ext : (f g : ℕ → A) (n : ℕ) → ((i : ℕ) → i < n → f i ≡ g i) → tab f n ≡ tab g n
  unfolding tab
  tab_ext f g zero h = refl
  tab_ext f g (suc n) h = ap₂ (λ (x : A) (l : List A). x ∷ l) (h 0 (zero-lt-suc n)) (tab_ext (λ i. f (suc i)) (λ i. g (suc i)) n (λ i l. h (suc i) (suc-le-suc l)))

  -- equal tables, equal shorter ones
  pub tab_fewer : (f g : ℕ → A) (m n : ℕ) (a : A) → n ≤ m → tab f m ≡ tab g m → tab f n ≡ tab g n
  tab_fewer f g m n a h e = tab_ext f g n (λ i l. sym (tab_at f m i a (omega arith)) ∙ ap (λ (t : List A). get_or t i a) e ∙ tab_at g m i a (omega arith))

  -- a list is the table of its elements
  pub tab_list : (a : A) (xs : List A) → tab (λ i. get_or xs i a) (length xs) ≡ xs
  unfolding tab
  tab_list a [] = refl
  tab_list a (x ∷ xs) = ap (λ (l : List A). x ∷ l) (tab_list a xs)

  pub tab_append : (f : ℕ → A) (m n : ℕ) → tab f (m + n) ≡ tab f m ++ tab (λ i. f (m + i)) n
  unfolding tab
  tab_append f zero n = rw (zero-add n) (tab_ext f (λ i. f (zero + i)) n (λ i h. ap f (sym (zero-add i))))
  tab_append f (suc m) n = rw (suc-add m n) (ap (λ (l : List A). f 0 ∷ l) (tab_append (λ i. f (suc i)) m n ∙ ap (λ (l : List A). tab (λ i. f (suc i)) m ++ l) (tab_ext (λ i. f (suc (m + i))) (λ i. f (suc m + i)) n (λ i h. ap f (sym (suc-add m i))))))

pub tab_map : {A B : Type 0} (g : A → B) (f : ℕ → A) (n : ℕ) → map g (tab f n) ≡ tab (λ i. g (f i)) n
unfolding tab
tab_map g f zero = refl
tab_map {B = B} g f (suc n) = ap (λ (l : List B). g (f 0) ∷ l) (tab_map g (λ i. f (suc i)) n)

-- ---- bytes
pub bytes_append : (xs ys : List ℕ) → bytes_of (xs ++ ys) ≡ bytes_of xs ++ bytes_of ys
unfolding bytes_of
bytes_append [] ys = refl
bytes_append (x ∷ xs) ys = ap (λ (l : List ℕ). x % 256 ∷ x / 256 ∷ l) (bytes_append xs ys)

pub bytes_length : (xs : List ℕ) → length (bytes_of xs) ≡ 2 * length xs
unfolding bytes_of
bytes_length [] = refl
bytes_length (x ∷ xs) = let e = bytes_length xs in omega (arith, e)

-- number k of the bytes of numbers is number k
pub number_bytes : (xs rest : List ℕ) (k : ℕ) → k < length xs → number_at (bytes_of xs ++ rest) k ≡ get_or xs k 0
unfolding number_at bytes_of
number_bytes [] rest k h = absurd (not-suc-le-zero h)
number_bytes (x ∷ xs) rest zero h = omega (arith, mod-add-div' x 256)
number_bytes (x ∷ xs) rest (suc k) h =
    let e : 2 * suc k ≡ suc (suc (2 * k)) = omega arith in
    let f : 2 * suc k + 1 ≡ suc (suc (2 * k + 1)) = omega arith in
    rw (f, e) (number_bytes xs rest k (le_of_suc-le-suc h))

-- the bytes of the numbers that bytes hold are these bytes, if each is below 256 and none is left over
pub bytes_numbers : (b : List ℕ) (m : ℕ) → length b ≡ 2 * m → ((i : ℕ) → get_or b i 0 < 256) → bytes_of (tab (number_at b) m) ≡ b
unfolding tab number_at bytes_of
bytes_numbers [] zero e h = refl
bytes_numbers [] (suc m) e h = absurd (omega arith)
bytes_numbers (x ∷ b) zero e h = absurd (omega arith)
bytes_numbers (x ∷ []) (suc m) e h = absurd (omega arith)
bytes_numbers (x ∷ y ∷ b) (suc m) e h = λ k. low k ∷ high k ∷ (ap bytes_of later ∙ bytes_numbers b m (omega arith) (λ i. h (suc (suc i)))) k
  where
    low : (x + 256 * y) % 256 ≡ x
    low = omega (arith, h 0)

    high : (x + 256 * y) / 256 ≡ y
    high = omega (arith, h 0)

    later : tab (λ i. get_or (x ∷ y ∷ b) (2 * suc i) 0 + 256 * get_or (x ∷ y ∷ b) (2 * suc i + 1) 0) m ≡ tab (λ i. get_or b (2 * i) 0 + 256 * get_or b (2 * i + 1) 0) m
    later = tab_ext _ _ m (λ i l.
        let e : 2 * suc i ≡ suc (suc (2 * i)) = omega arith in
        let f : 2 * suc i + 1 ≡ suc (suc (2 * i + 1)) = omega arith in
        rw (f, e) refl)

-- ---- writing
-- stores in a row
pub sets_append : (l : List ℕ) (i : ℕ) (a b : List ℕ) → sets l i (a ++ b) ≡ sets (sets l i a) (i + length a) b
sets_append l i [] b = ap (λ (k : ℕ). sets l k b) (sym (add-zero i))
sets_append l i (x ∷ a) b = sets_append (set l i x) (suc i) a b ∙ ap (λ (k : ℕ). sets (sets (set l i x) (suc i) a) k b) (suc-add i (length a) ∙ sym (add-suc i (length a)))

-- numbers written after numbers
pub write_more : (l : List ℕ) (k j : ℕ) (xs ys : List ℕ) → j ≡ k + length xs → sets (sets l (2 * k) (bytes_of xs)) (2 * j) (bytes_of ys) ≡ sets l (2 * k) (bytes_of (xs ++ ys))
write_more l k j xs ys e =
    let q : 2 * j ≡ 2 * k + length (bytes_of xs) = omega (arith, e, bytes_length xs) in
    ap (λ (m : ℕ). sets (sets l (2 * k) (bytes_of xs)) m (bytes_of ys)) q ∙ sym (sets_append l (2 * k) (bytes_of xs) (bytes_of ys)) ∙ ap (λ (z : List ℕ). sets l (2 * k) z) (sym (bytes_append xs ys))

-- no number written
pub write_none : (l : List ℕ) (k : ℕ) (f : ℕ → ℕ) → l ≡ sets l (2 * k) (bytes_of (tab f 0))
unfolding tab bytes_of
write_none l k f = refl

-- a loop that writes the table f from number k on: after its number i
pub write_next : (l m : List ℕ) (k i x : ℕ) (f : ℕ → ℕ) → x ≡ f i → m ≡ sets l (2 * k) (bytes_of (tab f i)) → sets m (2 * (k + i)) (bytes_of (x ∷ [])) ≡ sets l (2 * k) (bytes_of (tab f (i + 1)))
write_next l m k i x f e p =
    rw p (write_more l k (k + i) (tab f i) (x ∷ []) (omega (arith, tab_length f i)) ∙ ap (λ (z : List ℕ). sets l (2 * k) (bytes_of z)) (ap (λ (y : ℕ). tab f i ++ (y ∷ [])) e ∙ sym (tab_more f i)))

-- written from the start of an output: the answer at its front
pub write_front : (l a : List ℕ) → length a ≤ length l → sets l (2 * 0) a ≡ front a l
write_front l a h = sets-eq a l 0 (omega arith) ∙ ap (λ (k : ℕ). a ++ drop k l) (zero-add (length a))
