-- `synthesis::calls::synthesis` meets its contract: what the lengths refuse, then what the numbers refuse (`refusal_parts`), then the list.
use mathlib.Core.Path.{◌≡◌, refl, sym, ◌∙◌, ap}
use mathlib.Core.List.{List}
use Prim.Native.Nat.{ℕ, ◌+◌, ◌*◌, ◌<◌}
use native.Mathlib.Omega.{arith}
use lib.ListN.{length}
use Rattle.arith.specs.Refusals.{or_else, room_of}
use Rattle.arith.proofs.Refusals.{stop_first, stop_second, or_else_none, or_else_skip}
use Rattle.pauli.specs.Pauli.{Pauli}
use Rattle.std.proofs.lemmas.Result.{err_from_is_err_and}
use Rattle.tableau.specs.Bytes.{tableau_bytes, decode_tableau}
use Rattle.tableau.specs.Inner.View.{table_view}
use Rattle.tableau.specs.Inner.Parts.{sized_of, tests_of}
use Rattle.tableau.proofs.Accepted.{Sized, sized_good}
use Rattle.synthesis.specs.Inner.Reduce.{synthesised}
use Rattle.synthesis.specs.Demand3.{synthesis_refusal}
use Rattle.synthesis.proofs.Theorem.{synthesis}
use Rattle.synthesis.proofs.Premises.{formed_given}
use Rattle.synthesis.proofs.Handed.{square_small, refusal_parts, well_formed, accepted_given, promise_accepted, promise_refused}
use Rattle.synthesis.proofs.Chosen.{chosen_accepted}
use Rattle.synthesis.proofs.calls.synthesis.Goals.{In_ok-tests}
use Rattle.synthesis.proofs.calls.synthesis.Goals as goal

-- past the lengths
sized : {d n have : ℕ} (x : ℕ) → 0 ≡ or_else (sized_of d n have) x → Sized d n have
sized x e = sized_good (or_else_none _ _ (sym e)).0

-- past the tests too: the numbers are d and n, the tableau is that of the bytes, and nothing is refused
record Passed (d n : ℕ) (bytes : List ℕ) (room m w : ℕ) (u : List Pauli) : Type 0 where
  modulus : m ≡ d
  width : w ≡ n
  tableau : u ≡ decode_tableau n bytes
  none : synthesis_refusal d n bytes room ≡ 0

passed : (d n : ℕ) (bytes : List ℕ) (room m w : ℕ) (u : List Pauli) → 0 ≡ or_else (sized_of d n (length bytes)) (room_of (40 * (n * n) + 48 * n) room) → ◌≡◌ {A = ℕ × ℕ} (m, w) (d, n)
    → u ≡ decode_tableau w bytes → 0 ≡ tests_of m w u → Passed d n bytes room m w u
passed d n bytes room m w u e p q f =
    let dm : m ≡ d = ap (λ (x : ℕ × ℕ). x.0) p in
    let wn : w ≡ n = ap (λ (x : ℕ × ℕ). x.1) p in
    record {
      modulus = dm;
      width = wn;
      tableau = q ∙ ap (λ (x : ℕ). decode_tableau x bytes) wn;
      none = refusal_parts d n bytes room ∙ or_else_skip _ (sym e) ∙ sym (f ∙ (cc));
    }

-- so the count fits 16 bits
count_fits : (d n : ℕ) (bytes : List ℕ) (room : ℕ) {count : ℕ} → synthesis_refusal d n bytes room ≡ 0 → count ≡ length (synthesised d n (decode_tableau n bytes)) → count < 65536
count_fits d n bytes room z e =
    let w = accepted_given d n bytes room z in
    let h = w.0.width.n_high in
    omega (arith, e, (synthesis w.0.dimension.d_low (formed_given w.0) w.1).short, square_small n h, h)

at : (c : In_ok-tests) → Passed c.args.d c.args.n c.args.tableau.now (length c.args.out.now) c.in_ok-modulus.modulus c.in_ok-modulus.width (table_view c.in_ok-modulus.width c.read.new.self)
at c = let e = c.in_ok-modulus.ensures in passed _ _ _ _ _ _ _ e.refusal e.value c.read.ensures c.in_ok-tests.ensures

pub returns-in_err-modulus-clause-synthesised : goal.returns-in_err-modulus-clause-synthesised
returns-in_err-modulus-clause-synthesised c =
    let a = c.args in
    let p = err_from_is_err_and c.from_residual.result c.from_residual.ensures.1 in
    rw (p.1, p.2) (promise_refused {A = ℕ} (well_formed a.d a.n a.tableau.now (length a.out.now)) (stop_first _ _ (refusal_parts a.d a.n a.tableau.now (length a.out.now)) c.in_err-modulus.ensures.refusal refl) (refl, refl))

pub read-requires : goal.read-requires
read-requires c =
    let e = c.in_ok-modulus.ensures in
    record { size = (sized _ e.refusal).size ∙ ap (λ (p : ℕ × ℕ). tableau_bytes p.1) (sym e.value) }

pub returns-in_err-tests-clause-synthesised : goal.returns-in_err-tests-clause-synthesised
returns-in_err-tests-clause-synthesised c =
    let a = c.args in
    let p = err_from_is_err_and c.from_residual-in_err-tests.result c.from_residual-in_err-tests.ensures.1 in
    let e = c.in_ok-modulus.ensures in
    let m = ap (λ (x : ℕ × ℕ). x.0) e.value in
    let w = ap (λ (x : ℕ × ℕ). x.1) e.value in
    rw (p.1, p.2) (promise_refused {A = ℕ} (well_formed a.d a.n a.tableau.now (length a.out.now)) (stop_second _ _ (refusal_parts a.d a.n a.tableau.now (length a.out.now)) (sym e.refusal) (c.in_err-tests.ensures ∙ (cc)) refl) (refl, refl))

pub write_list-requires-clause-sound : goal.write_list-requires-clause-sound
write_list-requires-clause-sound c =
    let a = c.args in
    let f = at (goal.at.write_list-requires-clause-sound c).In_ok-tests in
    let w = accepted_given a.d a.n _ _ f.none in
    rw (c.new.ensures.0, c.new.ensures.1, c.new.ensures.2, f.tableau, f.modulus, f.width) (formed_given w.0, w.1)

pub write_list-requires-clause-room : goal.write_list-requires-clause-room
write_list-requires-clause-room c =
    let a = c.args in
    let f = at (goal.at.write_list-requires-clause-room c).In_ok-tests in
    rw (c.new.ensures.1, f.width) (accepted_given a.d a.n _ _ f.none).0.roomy

pub overflow_cast-result : goal.overflow_cast-result
overflow_cast-result c =
    let a = c.args in
    let f = at (goal.at.overflow_cast-result c).In_ok-tests in
    omega (arith, count_fits a.d a.n _ _ f.none (rw (c.new.ensures.0, c.new.ensures.1, c.new.ensures.2, f.tableau, f.modulus, f.width) at c.write_list.ensures.count))

pub returns-clause-synthesised : goal.returns-clause-synthesised
returns-clause-synthesised c =
    let a = c.args in
    let f = at (goal.at.returns-clause-synthesised c).In_ok-tests in
    let e = rw (c.new.ensures.0, c.new.ensures.1, c.new.ensures.2, f.tableau, f.modulus, f.width) at c.write_list.ensures in
    promise_accepted (well_formed a.d a.n a.tableau.now (length a.out.now)) (sym f.none) refl e.count e.list

pub returns-clause-chosen : goal.returns-clause-chosen
returns-clause-chosen c =
    let a = c.args in
    let f = at (goal.at.returns-clause-chosen c).In_ok-tests in
    let e = rw (c.new.ensures.0, c.new.ensures.1, c.new.ensures.2, f.tableau, f.modulus, f.width) at c.write_list.ensures in
    chosen_accepted a.out.now e.count e.list
