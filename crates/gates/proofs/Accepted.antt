-- What holds of the inputs of a call on lists that is not refused, and of its answer. Assumes nothing.
use mathlib.Core.Path.{◌≡◌, refl}
use mathlib.Core.Bool.{true}
use mathlib.Core.List.{List}
use Prim.Native.Nat.{ℕ, ◌*◌, ◌/◌, ◌%◌, ◌≤◌, ◌<◌}
use lib.Dec.{leb}
use native.Mathlib.Omega.{arith}
use lib.ListN.{length}
use Rattle.arith.specs.declared.checks.Refusal.TheVariants as refusal
use Rattle.arith.specs.Refusals.{unless_holds, given_of, size_of, whole_of, list_size_of, room_of}
use Rattle.arith.proofs.Refusals.{Given, or_else_none, given_good, size_good, list_size_good, room_good, row_good}
use Rattle.pauli.specs.Pauli.{InRange}
use Rattle.pauli.specs.Bytes.{pauli_bytes, decode}
use Rattle.pauli.specs.Range.{pauli_range_of}
use Rattle.pauli.proofs.Encoding.{decode_range}
use Rattle.gates.specs.Row.{run}
use Rattle.gates.specs.Written.{list_rows, rows_of, all_legal_rows}
use Rattle.gates.specs.Calls.{run_refusal, ticks_refusal, load_refusal}
use Rattle.gates.proofs.Written.{all_legal_meant}
use Rattle.gates.proofs.Kept.{run_range}

-- a list run on a Pauli
pub record Runs (d n : ℕ) (list p : List ℕ) (room : ℕ) : Type 0 where
  pub given : Given d n
  pub whole : length list % 8 ≡ 0
  pub few : length list ≤ 8 * 4096
  pub size : length p ≡ pauli_bytes n
  pub fits : pauli_bytes n ≤ room
  pub ranged : InRange d n (decode n p)
  pub legal : all_legal_rows d n (list_rows list) ≡ true

pub run_accepted : (d n : ℕ) (list p : List ℕ) (room : ℕ) → run_refusal d n list p room ≡ 0 → Runs d n list p room
run_accepted d n list p room e =
    let a = or_else_none (given_of d n) _ e in
    let b = or_else_none (list_size_of (length list)) _ a.1 in
    let s = or_else_none (size_of (pauli_bytes n) (length p)) _ b.1 in
    let r = or_else_none (room_of (pauli_bytes n) room) _ s.1 in
    let x = or_else_none (pauli_range_of d (decode n p)) _ r.1 in
    let l = list_size_good b.0 in
    record {
      given = given_good a.0;
      whole = l.0;
      few = l.1;
      size = size_good s.0;
      fits = room_good r.0;
      ranged = decode_range 0 p x.0;
      legal = row_good (all_legal_rows d n (list_rows list)) x.1;
    }

-- its answer is a Pauli in range
pub run_answers : (d n : ℕ) (list p : List ℕ) (room : ℕ) → run_refusal d n list p room ≡ 0 → InRange d n (run d (rows_of list) (decode n p))
run_answers d n list p room e =
    let z = run_accepted d n list p room e in
    run_range (omega arith) (all_legal_meant d n (list_rows list) z.legal) (decode n p) z.ranged

-- ticks
pub record Counts (d n : ℕ) (list : List ℕ) : Type 0 where
  pub given : Given d n
  pub few : length list ≤ 8 * 4096
  pub legal : all_legal_rows d n (list_rows list) ≡ true

pub ticks_accepted : (d n : ℕ) (list : List ℕ) → ticks_refusal d n list ≡ 0 → Counts d n list
ticks_accepted d n list e =
    let a = or_else_none (given_of d n) _ e in
    let b = or_else_none (list_size_of (length list)) _ a.1 in
    record { given = given_good a.0; few = (list_size_good b.0).1; legal = row_good (all_legal_rows d n (list_rows list)) b.1 }

-- ---- a load
-- 3 exactly where there are more than 4,096 rows
pub count_exactly : (count : ℕ) → list_size_of (8 * count) ≡ unless_holds refusal.Length (leb count 4096)
unfolding list_size_of whole_of
count_exactly count = let whole : 8 * count % 8 ≡ 0 = omega arith in let rows : 8 * count / 8 ≡ count = omega arith in rw (whole, rows) refl

pub record Loads (d n count room : ℕ) : Type 0 where
  pub large : 1 < d
  pub some : 0 < n
  pub fits : 8 * count ≤ room

pub load_accepted : (d n count room : ℕ) → load_refusal d n count room ≡ 0 → Loads d n count room
load_accepted d n count room e =
    let a = or_else_none (given_of d n) _ e in
    let b = or_else_none (list_size_of (8 * count)) _ a.1 in
    let g = given_good a.0 in
    record { large = g.dimension.d_low; some = g.width.n_low; fits = room_good b.1 }
