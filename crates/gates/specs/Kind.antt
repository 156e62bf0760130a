-- The kinds of gate rows: the number of each in bytes, and its letter in text.
use Rattle.std.specs.Prelude.{◌≡◌, ◌≢◌, ℕ, Result, MatchResult}
use Rattle.arith.specs.declared.checks.Refusal.{Refusal}
use Rattle.arith.specs.declared.checks.Refusal.TheVariants as refusal
use Rattle.gates.specs.declared.kind.Kind.{Kind}
use Rattle.gates.specs.declared.kind.Kind.TheVariants as kind

abbrev pub kind_number : Kind → ℕ
kind_number kind.F = 1
kind_number kind.S = 2
kind_number kind.A = 3
kind_number kind.M = 4
kind_number kind.X = 5
kind_number kind.Z = 6
kind_number kind.C = 7
kind_number kind.W = 8

abbrev pub kind_letter : Kind → ℕ
kind_letter kind.F = 70
kind_letter kind.S = 83
kind_letter kind.A = 65
kind_letter kind.M = 77
kind_letter kind.X = 88
kind_letter kind.Z = 90
kind_letter kind.C = 67
kind_letter kind.W = 87

-- no kind has x as its number, or as its letter
abbrev pub NoKind : (Kind → ℕ) → ℕ → Type 0
NoKind of x = (k : Kind) → of k ≢ x

-- the kind with this number, or the refusal of a row where none has it
abbrev pub NumberedKind : ℕ → Result Kind Refusal → Type 0
NumberedKind number r = MatchResult r (λ k. kind_number k ≡ number) (λ e. (e ≡ refusal.Row) × NoKind kind_number number)
