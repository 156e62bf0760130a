-- The lent bytes of a call on Paulis. A check answers several refusals of the table at once, and the call has one more after them:
-- what the call's refusal is where the check refuses and past the check, and what holds of the bytes then. Assumes nothing.
use mathlib.Core.Path.{◌≡◌, refl, sym, ap, ◌∙◌}
use mathlib.Core.List.{List}
use Prim.Native.Nat.{ℕ, ◌≤◌}
use Rattle.arith.specs.Refusals.{refusal_number, or_else, unless, kept, given_of, size_of, room_of, number_of}
use Rattle.arith.proofs.Refusals.{Given, or_else_none, or_else_skip, or_else_assoc, given_good, size_good, room_good, Stops, stop, stop_last}
use Rattle.std.specs.Prelude.{Result, Err}
use Rattle.arith.specs.declared.checks.Refusal.{Refusal}
use Rattle.pauli.specs.Bytes.{pauli_bytes}

-- a call refuses by `all`, which is s or else x: where the check of s refuses, and past it
pub stop_at : {A : Type 0} (s x : ℕ) {all : ℕ} {k : Refusal} {r : Result A Refusal} → or_else s x ≡ all → number_of r ≡ s → r ≡ Err k → Stops r all
stop_at s x e f g = rw e at (stop s x f g)

-- ---- one more refusal, after s
pub past : (s x : ℕ) {all : ℕ} → or_else s x ≡ all → s ≡ 0 → all ≡ x
past s x e f = sym e ∙ or_else_skip x f

pub stop_past : {A : Type 0} (s x : ℕ) {all : ℕ} {r : Result A Refusal} → or_else s x ≡ all → s ≡ 0 → Stops r x → Stops r all
stop_past s x e f h = rw (past s x e f) h

after_three : (a b c x : ℕ) → or_else (or_else a (or_else b c)) x ≡ or_else a (or_else b (or_else c x))
after_three a b c x = or_else_assoc a (or_else b c) x ∙ ap (or_else a) (or_else_assoc b c x)

after_four : (a b c e x : ℕ) → or_else (or_else a (or_else b (or_else c e))) x ≡ or_else a (or_else b (or_else c (or_else e x)))
after_four a b c e x = or_else_assoc a (or_else b (or_else c e)) x ∙ ap (or_else a) (after_three b c e x)

-- ---- a Pauli of p bytes: 1, 2, 3
module _ (d n p : ℕ) where
  abbrev pub one : ℕ
  one = or_else (given_of d n) (size_of (pauli_bytes n) p)

  pub after_one : (x : ℕ) → or_else one x ≡ or_else (given_of d n) (or_else (size_of (pauli_bytes n) p) x)
  after_one = or_else_assoc (given_of d n) (size_of (pauli_bytes n) p)

  pub one_lent : one ≡ 0 → Given d n × (p ≡ pauli_bytes n)
  one_lent e = let x = or_else_none (given_of d n) (size_of (pauli_bytes n) p) e in (given_good x.0, size_good x.1)

-- ---- two Paulis of p and q bytes: 1, 2, 3 of each
module _ (d n p q : ℕ) where
  abbrev pub pair : ℕ
  pair = or_else (given_of d n) (or_else (size_of (pauli_bytes n) p) (size_of (pauli_bytes n) q))

  pub after_pair : (x : ℕ) → or_else pair x ≡ or_else (given_of d n) (or_else (size_of (pauli_bytes n) p) (or_else (size_of (pauli_bytes n) q) x))
  after_pair = after_three (given_of d n) (size_of (pauli_bytes n) p) (size_of (pauli_bytes n) q)

  pub pair_lent : pair ≡ 0 → Given d n × ((p ≡ pauli_bytes n) × (q ≡ pauli_bytes n))
  pair_lent e =
      let x = or_else_none (given_of d n) (or_else (size_of (pauli_bytes n) p) (size_of (pauli_bytes n) q)) e in
      let y = or_else_none (size_of (pauli_bytes n) p) (size_of (pauli_bytes n) q) x.1 in
      (given_good x.0, (size_good y.0, size_good y.1))

-- ---- a Pauli of p bytes and an output: 1, 2, 3, 4
module _ (d n p room : ℕ) where
  abbrev pub output : ℕ
  output = or_else (given_of d n) (or_else (size_of (pauli_bytes n) p) (room_of (pauli_bytes n) room))

  pub after_output : (x : ℕ) → or_else output x ≡ or_else (given_of d n) (or_else (size_of (pauli_bytes n) p) (or_else (room_of (pauli_bytes n) room) x))
  after_output = after_three (given_of d n) (size_of (pauli_bytes n) p) (room_of (pauli_bytes n) room)

  pub output_lent : output ≡ 0 → Given d n × ((p ≡ pauli_bytes n) × (pauli_bytes n ≤ room))
  output_lent e =
      let x = or_else_none (given_of d n) (or_else (size_of (pauli_bytes n) p) (room_of (pauli_bytes n) room)) e in
      let y = or_else_none (size_of (pauli_bytes n) p) (room_of (pauli_bytes n) room) x.1 in
      (given_good x.0, (size_good y.0, room_good y.1))

-- ---- two Paulis and an output: 1, 2, 3 of each, 4
module _ (d n p q room : ℕ) where
  abbrev pub pair_output : ℕ
  pair_output = or_else (given_of d n) (or_else (size_of (pauli_bytes n) p) (or_else (size_of (pauli_bytes n) q) (room_of (pauli_bytes n) room)))

  pub after_pair_output : (x : ℕ) → or_else pair_output x ≡ or_else (given_of d n) (or_else (size_of (pauli_bytes n) p) (or_else (size_of (pauli_bytes n) q) (or_else (room_of (pauli_bytes n) room) x)))
  after_pair_output = after_four (given_of d n) (size_of (pauli_bytes n) p) (size_of (pauli_bytes n) q) (room_of (pauli_bytes n) room)

  pub pair_output_lent : pair_output ≡ 0 → Given d n × ((p ≡ pauli_bytes n) × ((q ≡ pauli_bytes n) × (pauli_bytes n ≤ room)))
  pair_output_lent e =
      let x = or_else_none (pair d n p q) (room_of (pauli_bytes n) room) (after_pair d n p q (room_of (pauli_bytes n) room) ∙ e) in
      let y = pair_lent d n p q x.0 in
      (y.0, (y.1.0, (y.1.1, room_good x.1)))

-- ---- a refusal found: what comes after it makes no difference, a result is 0, and an output is as it was
pub or_else_left : (a b c : ℕ) → or_else a (or_else b c) ≡ or_else (or_else a b) c
or_else_left a b c = sym (or_else_assoc a b c)

pub or_else_refused : (k : Refusal) (x : ℕ) → or_else (refusal_number k) x ≡ refusal_number k
or_else_refused k x = sym (stop {A = ℕ} (refusal_number k) x {r = Err k} refl refl).same

pub unless_refused : (k : Refusal) (v : ℕ) → unless (refusal_number k) v ≡ 0
unless_refused k v = sym ((stop_last {A = ℕ} (refusal_number k) {r = Err k} refl refl).value v)

pub kept_refused : (k : Refusal) (old new : List ℕ) → kept (refusal_number k) old new ≡ old
kept_refused k old new = sym ((stop_last {A = ℕ} (refusal_number k) {r = Err k} refl refl).out old new)

-- ---- all of them together, for the proofs of the calls
pub ruleset lent = (one_lent, pair_lent, output_lent, pair_output_lent, or_else_left, or_else_refused, unless_refused, kept_refused)
