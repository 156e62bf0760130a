-- Paulis in range: what the range says of each entry, and what stays in range. Paulis are equal if their parts are.
use mathlib.Core.Path.{◌≡◌, sym, ◌∙◌}
use mathlib.Core.List.{◌++◌}
use Prim.Native.Nat.{ℕ, zero, suc, ◌+◌, ◌*◌, ◌<◌}
use native.Mathlib.Nat.{mod-lt}
use native.Mathlib.Omega.{arith}
use lib.ListN.{length, get_or, set, length-set, length-append}
use Rattle.pauli.specs.Pauli.{Pauli, InRange, dot, product, phase_only, power}
use Rattle.pauli.proofs.Lists.{get_d_below, zeros_below, zeros_length, set_below}
use Rattle.pauli.proofs.Sums.{plus_length, plus_below}

pub pauli_path : {p q : Pauli} → p.phase ≡ q.phase → p.v ≡ q.v → p.w ≡ q.w → p ≡ q
pauli_path a b c k = record { phase = a k; v = b k; w = c k }

module _ {d n : ℕ} {p : Pauli} (r : InRange d n p) where
  pub d_pos : 0 < d
  d_pos = go d p.phase r.phase_below
    where
      go : (d x : ℕ) → x < 2 * d → 0 < d
      go d x l = omega arith

  -- every entry is below d, the ones past the end too
  pub v_less : (i : ℕ) → get_or p.v i 0 < d
  v_less i = get_d_below i d_pos r.v_below

  pub w_less : (i : ℕ) → get_or p.w i 0 < d
  w_less i = get_d_below i d_pos r.w_below

  -- qudit i is one of its
  pub in_v : {i : ℕ} → i < n → i < length p.v
  in_v l = omega (arith, r.v_length)

  pub in_w : {i : ℕ} → i < n → i < length p.w
  in_w l = omega (arith, r.w_length)

  pub entries_length : length (p.v ++ p.w) ≡ n + n
  entries_length = length-append p.v p.w ∙ omega (arith, r.v_length, r.w_length)

  -- another phase, or one entry set
  pub phase_range : {h : ℕ} → h < 2 * d → InRange d n (record { phase = h; v = p.v; w = p.w })
  phase_range l = record { phase_below = l; v_length = r.v_length; w_length = r.w_length; v_below = r.v_below; w_below = r.w_below }

  pub set_v_range : (i : ℕ) {a : ℕ} → a < d → InRange d n (record { phase = p.phase; v = set p.v i a; w = p.w })
  set_v_range i {a} l = record { phase_below = r.phase_below; v_length = length-set p.v i a ∙ r.v_length; w_length = r.w_length; v_below = set_below i l r.v_below; w_below = r.w_below }

  pub set_w_range : (i : ℕ) {a : ℕ} → a < d → InRange d n (record { phase = p.phase; v = p.v; w = set p.w i a })
  set_w_range i {a} l = record { phase_below = r.phase_below; v_length = r.v_length; w_length = length-set p.w i a ∙ r.w_length; v_below = r.v_below; w_below = set_below i l r.w_below }

pub product_range : {d n : ℕ} {p q : Pauli} → 0 < d → InRange d n p → InRange d n q → InRange d n (product d p q)
product_range {d} {n} {p} {q} pos a b = record {
  phase_below = mod-lt (p.phase + q.phase + 2 * dot p.w q.v) (omega arith);
  v_length = plus_length d p.v q.v (a.v_length ∙ sym b.v_length) ∙ a.v_length;
  w_length = plus_length d p.w q.w (a.w_length ∙ sym b.w_length) ∙ a.w_length;
  v_below = plus_below pos p.v q.v;
  w_below = plus_below pos p.w q.w;
}

pub phase_only_range : {d : ℕ} (n h : ℕ) → 0 < d → h < 2 * d → InRange d n (phase_only n h)
phase_only_range n h pos l = record { phase_below = l; v_length = zeros_length n; w_length = zeros_length n; v_below = zeros_below pos n; w_below = zeros_below pos n }

pub one_range : {d : ℕ} (n : ℕ) → 0 < d → InRange d n (phase_only n 0)
one_range n pos = phase_only_range n 0 pos (omega arith)

pub power_range : {d n : ℕ} {p : Pauli} (k : ℕ) → 0 < d → InRange d n p → InRange d n (power d n p k)
power_range {n = n} zero pos a = one_range n pos
power_range (suc k) pos a = product_range pos (power_range k pos a) a
