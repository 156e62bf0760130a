-- Demand 3 from its premises: the call isn't malformed exactly when they hold, and then its promise is demand 3. Assumes nothing.
use mathlib.Core.Path.{◌≡◌, ◌∙◌, subst}
use mathlib.Core.List.{List}
use mathlib.Core.Logic.{◌↔◌, ◌⊎◌}
use Prim.Native.Nat.{ℕ, ◌+◌, ◌*◌}
use native.Mathlib.Omega.{arith}
use lib.ListN.{length}
use Rattle.arith.specs.Refusals.{given_of, size_of, room_of}
use Rattle.arith.proofs.Refusals.{or_else_none, or_else_skip, given_good, size_good, room_good}
use Rattle.arith.proofs.Passes.{given_passes, size_passes, room_passes, both_pass}
use Rattle.arith.specs.declared.checks.Answer.{Answer}
use Rattle.pauli.specs.Pauli.{Pauli}
use Rattle.tableau.specs.Tableau.{WellFormed}
use Rattle.tableau.specs.Bytes.{tableau_bytes, decode_tableau}
use Rattle.tableau.specs.Soundness.{soundness_of}
use Rattle.tableau.proofs.Bytes.{decode_length, decode_formed, ranges_pass}
use Rattle.tableau.proofs.Tests.{neither_none}
use Rattle.synthesis.specs.Demand3.{malformed_of, WellGiven, Demand3, Promise, Synthesised}

-- a call isn't malformed exactly when d is 2 to 1,024, n is 1 to 16, the length is right, the room is enough and every number is in range
pub malformed_exactly : (d n : ℕ) (bytes : List ℕ) (room : ℕ) → (malformed_of d n bytes room ≡ 0) ↔ WellGiven d n bytes room
malformed_exactly d n bytes room = (
  λ e.
      let g = or_else_none (given_of d n) _ e in
      let s = or_else_none (size_of (tableau_bytes n) (length bytes)) _ g.1 in
      let r = or_else_none (room_of (40 * (n * n) + 48 * n) room) _ s.1 in
      let h = given_good g.0 in
      record { dimension = h.dimension; width = h.width; sized = size_good s.0; ranges = (decode_formed bytes r.1).ranges; roomy = omega (arith, room_good r.0) },
  λ w. both_pass (given_passes w.dimension w.width) (both_pass (size_passes w.sized) (both_pass (room_passes (omega (arith, w.roomy))) (ranges_pass w.ranges))),
)

pub formed_given : {d n : ℕ} {bytes : List ℕ} {room : ℕ} → WellGiven d n bytes room → WellFormed d n (decode_tableau n bytes)
formed_given {n = n} {bytes} w = record { columns = decode_length n bytes; ranges = w.ranges }

-- demand 3, for whatever the output held before and whatever bytes the tableau is held in
pub demand3_holds : {d n malformed : ℕ} {t : List Pauli} {old new : List ℕ} {a : Answer} → Promise d n malformed t old new a → malformed ≡ 0 → Demand3 d n t old new a
demand3_holds {d} {n} {malformed} {t} {old} {new} {a} s well = record {
  unrealisable = s.unrealisable well;
  otherwise = λ f. let z = number_none f in (z, s.list z);
}
  where
    at : a.number ≡ soundness_of d n t
    at = s.number ∙ or_else_skip (soundness_of d n t) well

    number_none : ¬ ((a.number ≡ 7) ⊎ (a.number ≡ 8)) → a.number ≡ 0
    number_none f = at ∙ neither_none d n t (subst (λ (x : ℕ). ¬ ((x ≡ 7) ⊎ (x ≡ 8))) at f)

pub demand3 : {d n : ℕ} {bytes old new : List ℕ} {a : Answer} → Synthesised d n bytes old new a → WellGiven d n bytes (length old) → Demand3 d n (decode_tableau n bytes) old new a
demand3 {d} {n} {bytes} {old} s w = demand3_holds s ((malformed_exactly d n bytes (length old)).1 w)
