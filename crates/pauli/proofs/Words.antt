-- Words and the bits that they are made of: one more bit on top, one bit changed, the number of ones. For words of any length. Assumes nothing.
use mathlib.Core.Path.{◌≡◌, refl, sym, ap, ap₂, ◌∙◌}
use mathlib.Core.List.{List, [], ◌∷◌, ◌++◌}
use Prim.Native.Nat.{ℕ, zero, suc, ◌+◌, ◌*◌, ◌/◌, ◌%◌, ◌^◌, ◌≤◌, ◌<◌, suc-le-suc}
use native.Mathlib.Nat.{mod-lt, zero-lt-suc, le_of_suc-le-suc, not-suc-le-zero, div-one, mul-one, pow-suc, zero-div, one-mul}
use native.Mathlib.Omega.{arith}
use lib.Bits.{bit_or, bit_xor, differ, or_shifted_r, xor_step, xor_zero_l, xor_zero_r, shifted_half, shifted_even}
use lib.Count.{ones, ones_step, under, count_trailing_zeros}
use lib.ListN.{length, get_or, set, drop, replicate}
use lib.Pow.{shr-shr, shl_exact}
use Rattle.pauli.specs.Pauli.{Below, none, more}
use Rattle.pauli.specs.Support.{word_of, total}

-- ---- its size
pub word_below : {bs : List ℕ} → Below 2 bs → word_of bs < 2 ^ length bs
word_below none = zero-lt-suc 0
word_below (more {xs = bs} h b) = let e = word_below b in rw (pow-suc 2 (length bs)) (omega (arith, e))

-- ---- the lowest bit, and the word of the others
module _ {b : ℕ} (bs : List ℕ) (h : b < 2) where
  pub lowest : word_of (b ∷ bs) % 2 ≡ b
  lowest = omega arith

  pub higher : word_of (b ∷ bs) / 2 ≡ word_of bs
  higher = omega arith

  -- bit i + 1 of the word is bit i of the word of the others
  higher_bit : (i : ℕ) → word_of (b ∷ bs) / 2 ^ suc i ≡ word_of bs / 2 ^ i
  higher_bit i = sym (shr-shr (word_of (b ∷ bs)) 1 i ∙ ap (λ (k : ℕ). word_of (b ∷ bs) / 2 ^ k) (omega arith)) ∙ ap (λ (x : ℕ). x / 2 ^ i) higher

-- ---- bit i
pub word_bit : {bs : List ℕ} (i : ℕ) → Below 2 bs → word_of bs / 2 ^ i % 2 ≡ get_or bs i 0
word_bit i none = ap (λ (x : ℕ). x % 2) (zero-div (2 ^ i))
word_bit zero (more {xs = bs} h b) = ap (λ (x : ℕ). x % 2) (div-one _) ∙ lowest bs h
word_bit (suc i) (more {xs = bs} h b) = ap (λ (x : ℕ). x % 2) (higher_bit bs h i) ∙ word_bit i b

-- ---- one more bit, on top
pub word_more : (bs : List ℕ) (b : ℕ) → word_of (bs ++ (b ∷ [])) ≡ b * 2 ^ length bs + word_of bs
word_more [] b = omega arith
word_more (c ∷ bs) b = let e = word_more bs b in rw (pow-suc 2 (length bs)) (omega (arith, e))

-- in a word of k bits it is shifted and put in
pub word_or : {bs : List ℕ} {i : ℕ} (k b : ℕ) → Below 2 bs → b < 2 → length bs ≡ i → i < k → bit_or (word_of bs) (b * 2 ^ i % 2 ^ k) ≡ word_of (bs ++ (b ∷ []))
word_or {bs} k b below h e l = rw (sym e, shl_exact {a = b} 1 (length bs) k h (omega (arith, e))) (or_shifted_r b (length bs) (word_of bs) (word_below below) ∙ sym (word_more bs b))

-- ---- bit i changed to b
-- two bits: what is put on by `xor` makes one the other
bits_differ : (a b : ℕ) → a < 2 → b < 2 → (bit_xor a b < 2) × (differ a (bit_xor a b) ≡ b)
bits_differ zero b h k = rw (xor_zero_l b) (k, refl)
bits_differ (suc zero) zero h k = (omega arith, refl)
bits_differ (suc zero) (suc zero) h k = (omega arith, refl)
bits_differ (suc zero) (suc (suc b)) h k = absurd (omega arith)
bits_differ (suc (suc a)) b h k = absurd (omega arith)

differ_zero : (a : ℕ) → differ a 0 ≡ a
differ_zero zero = refl
differ_zero (suc a) = refl

-- `xor` with one bit changes the lowest alone
xor_lowest : (c y : ℕ) → y < 2 → bit_xor c y ≡ c / 2 * 2 + differ (c % 2) y
xor_lowest c y h =
    let half : y / 2 ≡ 0 = omega arith in
    let low : y % 2 ≡ y = omega arith in
    xor_step c y ∙ rw (half, low) (ap (λ (x : ℕ). x * 2 + differ (c % 2) y) (xor_zero_r (c / 2)))

word_set : {bs : List ℕ} (i b : ℕ) → Below 2 bs → b < 2 → i < length bs → bit_xor (word_of bs) (bit_xor (word_of bs / 2 ^ i % 2) b * 2 ^ i) ≡ word_of (set bs i b)
word_set i b none k l = absurd (not-suc-le-zero l)
word_set zero b (more {x = c} {xs = bs} h below) k l =
    let z = bits_differ c b h k in
    rw (div-one (word_of (c ∷ bs)), lowest bs h, mul-one (bit_xor c b))
    (xor_lowest (word_of (c ∷ bs)) (bit_xor c b) z.0 ∙ rw (lowest bs h, higher bs h, z.1) (omega arith))
word_set (suc i) b (more {x = c} {xs = bs} h below) k l =
    rw (higher_bit bs h i)
    (xor_step (word_of (c ∷ bs)) _
    ∙ rw (lowest bs h, higher bs h, shifted_half (bit_xor (word_of bs / 2 ^ i % 2) b) i, shifted_even (bit_xor (word_of bs / 2 ^ i % 2) b) i, differ_zero c, word_set i b below k (le_of_suc-le-suc l)) (omega arith))

-- in a word of k bits
pub word_changed : {bs : List ℕ} (k i b : ℕ) → Below 2 bs → b < 2 → i < length bs → i < k → bit_xor (word_of bs) (bit_xor (word_of bs / 2 ^ i % 2) b * 2 ^ i % 2 ^ k) ≡ word_of (set bs i b)
word_changed {bs} k i b below h l m =
    rw (shl_exact {a = bit_xor (word_of bs / 2 ^ i % 2) b} 1 i k (bits_differ (word_of bs / 2 ^ i % 2) b (mod-lt (word_of bs / 2 ^ i) (zero-lt-suc 1)) h).0 (omega arith)) (word_set i b below h l)

-- ---- the number of ones
pub word_ones : {bs : List ℕ} → Below 2 bs → ones (word_of bs) ≡ total bs
unfolding ones
word_ones none = refl
word_ones (more {x = c} {xs = bs} h below) = ones_step (word_of (c ∷ bs)) ∙ ap₂ (λ (x y : ℕ). x + y) (lowest bs h) (ap ones (higher bs h) ∙ word_ones below)

-- ---- the lowest bit that is set, in a word of k bits at most: those below it are 0, and the word of those above it is left when it is shifted out
pub record Lowest (k : ℕ) (bs : List ℕ) : Type 0 where
  pub inside : count_trailing_zeros k (word_of bs) < length bs
  pub zeros : (i : ℕ) → i < count_trailing_zeros k (word_of bs) → get_or bs i 0 ≡ 0
  pub above : word_of bs / 2 ^ count_trailing_zeros k (word_of bs) / 2 ≡ word_of (drop (suc (count_trailing_zeros k (word_of bs))) bs)

zeros_more : (k : ℕ) (bs : List ℕ) → count_trailing_zeros (suc k) (word_of (0 ∷ bs)) ≡ suc (count_trailing_zeros k (word_of bs))
unfolding count_trailing_zeros
zeros_more k bs = ap₂ (λ (x y : ℕ). under x (count_trailing_zeros k y)) (lowest bs (omega arith)) (higher bs (omega arith))

zeros_none : (k : ℕ) (bs : List ℕ) → count_trailing_zeros (suc k) (word_of (1 ∷ bs)) ≡ 0
unfolding count_trailing_zeros
zeros_none k bs = ap₂ (λ (x y : ℕ). under x (count_trailing_zeros k y)) (lowest bs (omega arith)) (higher bs (omega arith))

pub word_lowest : (k : ℕ) {bs : List ℕ} → Below 2 bs → length bs ≤ k → 0 < word_of bs → Lowest k bs
word_lowest k none l p = absurd (omega arith)
word_lowest zero (more h b) l p = absurd (not-suc-le-zero l)
word_lowest (suc k) (more {x = zero} {xs = bs} h b) l p =
    let r = word_lowest k b (le_of_suc-le-suc l) (omega arith) in
    let e = zeros_more k bs in
    record { inside = rw e (suc-le-suc r.inside); zeros = λ i m. zeros_from r.zeros i (rw e at m); above = rw e (ap (λ (x : ℕ). x / 2) (higher_bit bs h _) ∙ r.above) }
  where
    zeros_from : {t : ℕ} → ((i : ℕ) → i < t → get_or bs i 0 ≡ 0) → (i : ℕ) → i < suc t → get_or (0 ∷ bs) i 0 ≡ 0
    zeros_from z zero m = refl
    zeros_from z (suc i) m = z i (le_of_suc-le-suc m)
word_lowest (suc k) (more {x = suc zero} {xs = bs} h b) l p =
    let e = zeros_none k bs in
    record { inside = rw e (zero-lt-suc (length bs)); zeros = λ i m. absurd (not-suc-le-zero (rw e at m)); above = rw e (ap (λ (x : ℕ). x / 2) (div-one (word_of (1 ∷ bs))) ∙ higher bs h) }
word_lowest (suc k) (more {x = suc (suc x)} {xs = bs} h b) l p = absurd (omega arith)

-- a word with no bit set
pub word_empty : {bs : List ℕ} → Below 2 bs → word_of bs ≡ 0 → (i : ℕ) → get_or bs i 0 ≡ 0
word_empty none e i = refl
word_empty (more {x = x} {xs = bs} h b) e zero = omega arith
word_empty (more {x = x} {xs = bs} h b) e (suc i) = word_empty b (omega arith) i

-- ---- zeros, and one 1 among them
pub word_zeros : (n : ℕ) → word_of (replicate n 0) ≡ 0
word_zeros zero = refl
word_zeros (suc n) = let e = word_zeros n in omega (arith, e)

pub word_single : (n i : ℕ) → i < n → word_of (set (replicate n 0) i 1) ≡ 2 ^ i
word_single zero i l = absurd (not-suc-le-zero l)
word_single (suc n) zero l = let e = word_zeros n in omega (arith, e)
word_single (suc n) (suc i) l = let e = word_single n i (le_of_suc-le-suc l) in rw (pow-suc 2 i) (omega (arith, e))

pub one_shifted : (k i : ℕ) → i < k → 1 * 2 ^ i % 2 ^ k ≡ 2 ^ i
one_shifted k i l = shl_exact {a = 1} 1 i k (omega arith) (omega arith) ∙ one-mul (2 ^ i)
