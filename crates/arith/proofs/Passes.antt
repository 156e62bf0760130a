-- What passes a check: the converse of the laws in Refusals that end in -good. Together they say that 1 to 5 are 0 exactly where the plain facts hold. Assumes nothing.
use mathlib.Core.Path.{◌≡◌, refl}
use Prim.Native.Nat.{ℕ, ◌/◌, ◌%◌, ◌≤◌, ◌<◌}
use borrow.Author.Tests.{le-leb, lt-ltb, eq-eqb}
use Rattle.arith.specs.Refusals.{or_else, dimension_of, width_of, given_of, size_of, whole_of, room_of, range_of, Dimension, Width}

pub dimension_passes : {d : ℕ} → Dimension d → dimension_of d ≡ 0
unfolding dimension_of
dimension_passes {d} h = rw (le-leb 2 d h.d_low, le-leb d 1024 h.d_high) refl

pub width_passes : {n : ℕ} → Width n → width_of n ≡ 0
unfolding width_of
width_passes {n} h = rw (le-leb 1 n h.n_low, le-leb n 16 h.n_high) refl

pub size_passes : {want have : ℕ} → have ≡ want → size_of want have ≡ 0
unfolding size_of
size_passes {want} {have} e = rw (eq-eqb have want e) refl

pub whole_passes : (one most have : ℕ) → have % one ≡ 0 → have / one ≤ most → whole_of one most have ≡ 0
unfolding whole_of
whole_passes one most have e l = rw (eq-eqb (have % one) 0 e, le-leb (have / one) most l) refl

pub room_passes : {want have : ℕ} → want ≤ have → room_of want have ≡ 0
unfolding room_of
room_passes {want} {have} l = rw (le-leb want have l) refl

pub range_passes : {bound x : ℕ} → x < bound → range_of bound x ≡ 0
unfolding range_of
range_passes {bound} {x} l = rw (lt-ltb x bound l) refl

-- ---- several
pub both_pass : {a b : ℕ} → a ≡ 0 → b ≡ 0 → or_else a b ≡ 0
both_pass e f = rw (e, f) refl

pub given_passes : {d n : ℕ} → Dimension d → Width n → given_of d n ≡ 0
unfolding given_of
given_passes d n = both_pass (dimension_passes d) (width_passes n)
