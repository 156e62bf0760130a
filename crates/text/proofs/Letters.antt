-- The letters of kinds: those of the format are those that gates gives to a kind and a kind to. Assumes nothing.
use mathlib.Core.Path.{◌≡◌, refl, sym, ap, ◌∙◌}
use Prim.Native.Nat.{ℕ}
use Rattle.std.specs.Prelude.{None, Some, Result, Ok, Err, MatchResult}
use Rattle.arith.specs.declared.checks.Refusal.{Refusal}
use borrow.Author.Tests.{ne_eqb}
use Rattle.gates.specs.Kind.{kind_number, kind_letter, NoKind, NumberedKind}
use Rattle.gates.specs.declared.kind.Kind.{Kind}
use Rattle.gates.specs.declared.kind.Kind.TheVariants as kind
use Rattle.text.specs.Format.{letter_of}
use Rattle.text.specs.Inner.Scan.{kind_of, letter_field}
use Rattle.text.specs.declared.reading.Field.TheVariants.{Letter}

field_of : (k : Kind) → letter_field (kind_letter k) ≡ Some (Letter k)
unfolding letter_field kind_of
field_of kind.F = refl
field_of kind.S = refl
field_of kind.A = refl
field_of kind.M = refl
field_of kind.X = refl
field_of kind.Z = refl
field_of kind.C = refl
field_of kind.W = refl

-- a letter's field holds its kind, and what is no letter is no field
pub letter_kind : (b : ℕ) (k : Kind) → kind_letter k ≡ b → letter_field b ≡ Some (Letter k)
letter_kind b k e = ap letter_field (sym e) ∙ field_of k

pub letter_none : (b : ℕ) → NoKind kind_letter b → letter_field b ≡ None
unfolding letter_field kind_of
letter_none b h = rw (
  ne_eqb b 70 (λ e. h kind.F (sym e)),
  ne_eqb b 83 (λ e. h kind.S (sym e)),
  ne_eqb b 65 (λ e. h kind.A (sym e)),
  ne_eqb b 77 (λ e. h kind.M (sym e)),
  ne_eqb b 88 (λ e. h kind.X (sym e)),
  ne_eqb b 90 (λ e. h kind.Z (sym e)),
  ne_eqb b 67 (λ e. h kind.C (sym e)),
  ne_eqb b 87 (λ e. h kind.W (sym e)),
)

pub number_letter : (k : Kind) → letter_of (kind_number k) ≡ kind_letter k
unfolding letter_of
number_letter kind.F = refl
number_letter kind.S = refl
number_letter kind.A = refl
number_letter kind.M = refl
number_letter kind.X = refl
number_letter kind.Z = refl
number_letter kind.C = refl
number_letter kind.W = refl

-- the letter of a kind's number, and of a number that no kind has
pub letter_number : (x : ℕ) (k : Kind) → kind_number k ≡ x → letter_of x ≡ kind_letter k
letter_number x k e = ap letter_of (sym e) ∙ number_letter k

pub no_letter : (x : ℕ) → NoKind kind_number x → letter_of x ≡ 0
unfolding letter_of
no_letter x h = rw (
  ne_eqb x 1 (λ e. h kind.F (sym e)),
  ne_eqb x 2 (λ e. h kind.S (sym e)),
  ne_eqb x 3 (λ e. h kind.A (sym e)),
  ne_eqb x 4 (λ e. h kind.M (sym e)),
  ne_eqb x 5 (λ e. h kind.X (sym e)),
  ne_eqb x 6 (λ e. h kind.Z (sym e)),
  ne_eqb x 7 (λ e. h kind.C (sym e)),
  ne_eqb x 8 (λ e. h kind.W (sym e)),
)

-- and what is found of it by its kind, or 0
pub letter_found : {P : Kind → Type 0} (x y : ℕ) (r : Result Kind Refusal) → NumberedKind x r → MatchResult r P (λ e. y ≡ 0) → ((k : Kind) → P k → y ≡ kind_letter k) → y ≡ letter_of x
letter_found x y (Ok k) n m h = h k m ∙ sym (letter_number x k n)
letter_found x y (Err e) n m h = m ∙ sym (no_letter x n.1)
