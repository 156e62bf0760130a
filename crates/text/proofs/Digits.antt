-- Digits, and the letters of kinds. Assumes nothing.
use mathlib.Core.Path.{◌≡◌, refl, sym, ap, ◌∙◌}
use mathlib.Core.Bool.{Bool, true, false, cond}
use Rattle.std.specs.Prelude.{Some}
use mathlib.Core.List.{List, [], ◌∷◌, ◌++◌}
use Prim.Native.Nat.{ℕ, zero, suc, ◌+◌, ◌*◌, ◌-◌, ◌/◌, ◌%◌, ◌^◌, ◌≤◌, ◌<◌}
use native.Mathlib.Omega.{arith}
use lib.Dec.{ltb, eqb}
use lib.ListN.{length, length-append}
use borrow.Author.Tests.{ltb-true, ltb-false, lt-ltb, le-ltb, ne_eqb}
use Rattle.std.specs.Fmt as std
use Rattle.std.proofs.lemmas.Fmt.{decimal_by_steps}
use Rattle.gates.specs.Kind.{kind_number}
use Rattle.gates.specs.declared.kind.Kind.{Kind}
use Rattle.gates.specs.declared.kind.Kind.TheVariants as kind
use Rattle.text.specs.Format.{decimal, digits, letter_of, Fits, KindFits}
use Rattle.text.specs.Inner.Scan.{kind_of, letter_field, first_digit, next_digit, value_of}
use Rattle.text.specs.declared.reading.Field.{Field}
use Rattle.text.specs.declared.reading.Field.TheVariants.{Number, Zero}
use Rattle.text.specs.declared.reading.Field.TheVariants as field

pub decimal_low : (k x : ℕ) → x < 10 → decimal k x ≡ (48 + x) ∷ []
unfolding decimal
decimal_low zero x h = refl
decimal_low (suc k) x h = rw (lt-ltb x 10 h)

pub decimal_high : (k x : ℕ) → 10 ≤ x → decimal (suc k) x ≡ decimal k (x / 10) ++ ((48 + x % 10) ∷ [])
unfolding decimal
decimal_high k x h = rw (le-ltb x 10 h)

-- steps beyond x change nothing
decimal_steps : (k j x : ℕ) → x ≤ k → x ≤ j → decimal k x ≡ decimal j x
decimal_steps zero zero x h g = refl
decimal_steps zero (suc j) x h g = decimal_low zero x (omega arith) ∙ sym (decimal_low (suc j) x (omega arith))
decimal_steps (suc k) zero x h g = decimal_low (suc k) x (omega arith) ∙ sym (decimal_low zero x (omega arith))
decimal_steps (suc k) (suc j) x h g = go (ltb x 10) refl (λ q. decimal_steps k j (x / 10) (omega arith) (omega arith))
  where
    go : (t : Bool) → ltb x 10 ≡ t → (10 ≤ x → decimal k (x / 10) ≡ decimal j (x / 10)) → decimal (suc k) x ≡ decimal (suc j) x
    go true e r = decimal_low (suc k) x (ltb-true x 10 e) ∙ sym (decimal_low (suc j) x (ltb-true x 10 e))
    go false e r =
        decimal_high k x (ltb-false x 10 e) ∙ ap (λ (l : List ℕ). l ++ ((48 + x % 10) ∷ [])) (r (ltb-false x 10 e)) ∙ sym (decimal_high j x (ltb-false x 10 e))

pub digits_low : (x : ℕ) → x < 10 → digits x ≡ (48 + x) ∷ []
unfolding digits
digits_low x h = decimal_low x x h

-- a digit more
pub digits_more : (v x : ℕ) → 0 < v → x < 10 → digits (10 * v + x) ≡ digits v ++ ((48 + x) ∷ [])
unfolding digits
digits_more v x h g = go (10 * v + x) refl
  where
    go : (y : ℕ) → y ≡ 10 * v + x → decimal y y ≡ decimal v v ++ ((48 + x) ∷ [])
    go zero e = absurd (omega arith)
    go (suc k) e =
        let q : suc k / 10 ≡ v = omega arith in
        let r : suc k % 10 ≡ x = omega arith in
        decimal_high k (suc k) (omega arith) ∙ rw (q, r) (ap (λ (l : List ℕ). l ++ ((48 + x) ∷ [])) (decimal_steps k v v (omega arith) (omega arith)))

-- the last digit
pub digits_last : (x : ℕ) → 10 ≤ x → digits x ≡ digits (x / 10) ++ ((48 + x % 10) ∷ [])
digits_last x h =
    let e : 10 * (x / 10) + x % 10 ≡ x = omega arith in
    ap digits (sym e) ∙ digits_more (x / 10) (x % 10) (omega arith) (omega arith)

pub digits_length : (x : ℕ) → 10 ≤ x → length (digits x) ≡ length (digits (x / 10)) + 1
digits_length x h = ap length (digits_last x h) ∙ length-append (digits (x / 10)) ((48 + x % 10) ∷ [])

pub one_digit : (x : ℕ) → x < 10 → length (digits x) ≡ 1
one_digit x h = ap length (digits_low x h)

-- they are std's
pub digits_std : (x : ℕ) → x < 2 ^ 64 → digits x ≡ std.decimal x
digits_std x h = decimal_by_steps (λ n ds. digits n ≡ ds) (λ n l. digits_low n l) (λ n ds l e. digits_last n l ∙ ap (λ (w : List ℕ). w ++ ((48 + n % 10) ∷ [])) e) x h

-- a number of at most `bound` has at most k digits
most : (k bound x : ℕ) → x ≤ bound → ((y : ℕ) → y ≤ bound / 10 → length (digits y) ≤ k) → length (digits x) ≤ suc k
most k bound x h r = go (ltb x 10) refl
  where
    go : (t : Bool) → ltb x 10 ≡ t → length (digits x) ≤ suc k
    go true e = let q = ltb-true x 10 e in omega (arith, one_digit x q)
    go false e = let q = ltb-false x 10 e in omega (arith, digits_length x q, r (x / 10) (omega arith))

pub five_digits : (x : ℕ) → Fits x → length (digits x) ≤ 5
five_digits x h =
    most 4 99999 x (omega arith) (λ a ha. most 3 9999 a ha (λ b hb. most 2 999 b hb (λ c hc. most 1 99 c hc (λ d hd. let e = one_digit d (omega arith) in omega arith))))

-- ---- what a number's field is
pub number_field : ℕ → Field
number_field x = cond (eqb x 0) Zero (Number x)

pub number_some : (x : ℕ) → 0 < x → number_field x ≡ Number x
unfolding number_field
number_some x h = rw (ne_eqb x 0 (λ e. omega arith))

pub value_number : (x : ℕ) → value_of (number_field x) ≡ Some x
unfolding number_field
value_number zero = refl
value_number (suc x) = rw (ne_eqb (suc x) 0 (λ e. omega arith))

pub first_digit_lem : (x : ℕ) → x < 10 → first_digit (48 + x) ≡ Some (number_field x)
unfolding first_digit number_field
first_digit_lem zero h = refl
first_digit_lem (suc x) h =
    let e : 48 + suc x - 48 ≡ suc x = omega arith in
    rw (le-ltb (48 + suc x) 48 (omega arith), le-ltb 57 (48 + suc x) (omega arith), ne_eqb (48 + suc x) 48 (λ q. omega arith), e, ne_eqb (suc x) 0 (λ q. omega arith))

pub next_digit_lem : (v x : ℕ) → x < 10 → 10 * v + x ≤ 65535 → next_digit v (48 + x) ≡ Some (Number (10 * v + x))
unfolding next_digit
next_digit_lem v x h g =
    let e : 48 + x - 48 ≡ x = omega arith in
    rw (le-ltb (48 + x) 48 (omega arith), le-ltb 57 (48 + x) (omega arith), e, le-ltb 65535 (10 * v + x) g)

-- ---- letters
pub by_kind : (P : ℕ → Type 0) → P 1 → P 2 → P 3 → P 4 → P 5 → P 6 → P 7 → P 8 → (k : ℕ) → KindFits k → P k
by_kind P a b c d e f g h zero l = absurd (omega arith)
by_kind P a b c d e f g h (suc zero) l = a
by_kind P a b c d e f g h (suc (suc zero)) l = b
by_kind P a b c d e f g h (suc (suc (suc zero))) l = c
by_kind P a b c d e f g h (suc (suc (suc (suc zero)))) l = d
by_kind P a b c d e f g h (suc (suc (suc (suc (suc zero))))) l = e
by_kind P a b c d e f g h (suc (suc (suc (suc (suc (suc zero)))))) l = f
by_kind P a b c d e f g h (suc (suc (suc (suc (suc (suc (suc zero))))))) l = g
by_kind P a b c d e f g h (suc (suc (suc (suc (suc (suc (suc (suc zero)))))))) l = h
by_kind P a b c d e f g h (suc (suc (suc (suc (suc (suc (suc (suc (suc k))))))))) l = absurd (omega arith)

pub record Letter (k : ℕ) : Type 0 where
  pub kind : Kind
  pub number : kind_number kind ≡ k
  pub back : letter_field (letter_of k) ≡ Some (field.Letter kind)
  pub no_comma : letter_of k ≡ 44 → ⊥
  pub no_end : letter_of k ≡ 10 → ⊥

pub letter : (k : ℕ) → KindFits k → Letter k
unfolding letter_field letter_of kind_of
letter = by_kind Letter
    (record { kind = kind.F; number = refl; back = refl; no_comma = λ e. omega arith; no_end = λ e. omega arith })
    (record { kind = kind.S; number = refl; back = refl; no_comma = λ e. omega arith; no_end = λ e. omega arith })
    (record { kind = kind.A; number = refl; back = refl; no_comma = λ e. omega arith; no_end = λ e. omega arith })
    (record { kind = kind.M; number = refl; back = refl; no_comma = λ e. omega arith; no_end = λ e. omega arith })
    (record { kind = kind.X; number = refl; back = refl; no_comma = λ e. omega arith; no_end = λ e. omega arith })
    (record { kind = kind.Z; number = refl; back = refl; no_comma = λ e. omega arith; no_end = λ e. omega arith })
    (record { kind = kind.C; number = refl; back = refl; no_comma = λ e. omega arith; no_end = λ e. omega arith })
    (record { kind = kind.W; number = refl; back = refl; no_comma = λ e. omega arith; no_end = λ e. omega arith })
