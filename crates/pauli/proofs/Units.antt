-- The unit Paulis: ranges, parities, commutation numbers and powers.
use mathlib.Core.Bool.{cond}
use mathlib.Core.Path.{◌≡◌, refl, sym, ◌∙◌, ap}
use mathlib.Core.List.{List, [], ◌∷◌}
use mathlib.Core.Logic.{◌≢◌}
use Prim.Native.Nat.{ℕ, ◌+◌, ◌*◌, ◌-◌, ◌%◌, ◌≤◌, ◌<◌}
use native.Mathlib.Nat.{mod-eq_of_lt, zero-mod}
use native.Mathlib.Omega.{arith}
use lib.ListN.{length, get_or, set, replicate}
use lib.Dec.{eqb}
use Rattle.arith.proofs.Cases.{ltb_case, eqb_case}
use Rattle.arith.proofs.Cong.{Cong, neg_sub}
use Rattle.arith.specs.Residues.{neg}
use Rattle.arith.proofs.Ring.{ring₁, quote}
use Rattle.arith.proofs.Remainders.{mul_none, neg_zero}
use Rattle.pauli.specs.Pauli.{Pauli, InRange, Below, plus, product, power, comm, parity, unit, unit_x, unit_z}
use Rattle.pauli.proofs.Lists.{single_length, zeros_length, single_same, get_d_zeros, set_below, zeros_below, single_other}
use Rattle.pauli.proofs.Sums.{plus_single, scaled_single, scaled_zeros, plus_zero_r}
use Rattle.pauli.proofs.Dots.{dot_zero_l, dot_single_r, dot_single_l, dot_zero_r}
use Rattle.pauli.proofs.Ranges.{pauli_path}
use Rattle.pauli.proofs.Group.{power_closed}

-- ---- which of the two kinds
-- what holds of both kinds holds of every unit
pub unit_case : (P : Pauli → Type 0) (n j : ℕ) → (j < n → P (unit_x n j)) → (n ≤ j → P (unit_z n (j - n))) → P (unit n j)
unit_case P n j f g = ltb_case (λ b. P (cond b (unit_x n j) (unit_z n (j - n)))) j n f g

pub unit_x_lem : (n j : ℕ) → j < n → unit n j ≡ unit_x n j
unit_x_lem n j h = unit_case (λ p. p ≡ unit_x n j) n j (λ l. refl) (λ l. absurd (omega arith))

pub unit_z_lem : (n j : ℕ) → n ≤ j → unit n j ≡ unit_z n (j - n)
unit_z_lem n j h = unit_case (λ p. p ≡ unit_z n (j - n)) n j (λ l. absurd (omega arith)) (λ l. refl)

-- ---- ranges and parities
pub unit_x_range : (d n i : ℕ) → 1 < d → InRange d n (unit_x n i)
unit_x_range d n i h = record {
  phase_below = omega arith;
  v_length = single_length n i 1;
  w_length = zeros_length n;
  v_below = set_below i h (zeros_below (omega arith) n);
  w_below = zeros_below (omega arith) n;
}

pub unit_z_range : (d n i : ℕ) → 1 < d → InRange d n (unit_z n i)
unit_z_range d n i h = record {
  phase_below = omega arith;
  v_length = zeros_length n;
  w_length = single_length n i 1;
  v_below = zeros_below (omega arith) n;
  w_below = set_below i h (zeros_below (omega arith) n);
}

pub unit_range : (d n j : ℕ) → 1 < d → InRange d n (unit n j)
unit_range d n j h = unit_case (InRange d n) n j (λ l. unit_x_range d n j h) (λ l. unit_z_range d n (j - n) h)

parity_zero : (d x : ℕ) → x ≡ 0 → (0 + (d - 1) * x) % 2 ≡ 0
parity_zero d x e = ap (λ (y : ℕ). (0 + y) % 2) (mul_none (d - 1) e)

pub unit_parity : (d n j : ℕ) → parity d (unit n j) ≡ 0
unit_parity d n j = unit_case (λ p. parity d p ≡ 0) n j
    (λ l. parity_zero d _ (dot_zero_l n (set (replicate n 0) j 1)))
    (λ l. parity_zero d _ (dot_zero_r n (set (replicate n 0) (j - n) 1)))

-- ---- commutation with a unit reads an entry
read_w : (d x y z : ℕ) → 0 < d → x ≡ 1 * z → y ≡ 0 → Cong d (x + neg d y) z
read_w d x y z pos e f = rw (e, f) (ring₁ d (z ∷ []) pos (search quote) (search quote) tt)

read_v : (d x y z : ℕ) → 0 < d → x ≡ 1 * z → y ≡ 0 → Cong d (y + neg d x) (neg d z)
read_v d x y z pos e f = rw (e, f) (ring₁ d (z ∷ []) pos (search quote) (search quote) tt)

pub comm_unit_x : (d n i : ℕ) (p : Pauli) → 0 < d → i < n → comm d p (unit_x n i) ≡ get_or p.w i 0 % d
comm_unit_x d n i p pos l = (read_w d _ _ (get_or p.w i 0) pos (dot_single_r n i 1 p.w l) (dot_zero_r n p.v)).same

pub comm_unit_z : (d n i : ℕ) (p : Pauli) → 0 < d → i < n → comm d p (unit_z n i) ≡ neg d (get_or p.v i 0) % d
comm_unit_z d n i p pos l = (read_v d _ _ (get_or p.v i 0) pos (dot_single_r n i 1 p.v l) (dot_zero_r n p.w)).same

pub unit_x_comm : (d n i : ℕ) (p : Pauli) → 0 < d → i < n → comm d (unit_x n i) p ≡ neg d (get_or p.w i 0) % d
unit_x_comm d n i p pos l = (read_v d _ _ (get_or p.w i 0) pos (dot_single_l n i 1 p.w l) (dot_zero_l n p.v)).same

pub unit_z_comm : (d n i : ℕ) (p : Pauli) → 0 < d → i < n → comm d (unit_z n i) p ≡ get_or p.v i 0 % d
unit_z_comm d n i p pos l = (read_w d _ _ (get_or p.v i 0) pos (dot_single_l n i 1 p.v l) (dot_zero_l n p.w)).same

-- ---- units j < k
pick_eqb : (j k x y z : ℕ) → (j ≡ k → z ≡ x) → (j ≢ k → z ≡ y) → z ≡ cond (eqb j k) x y
pick_eqb j k x y z f g = eqb_case (λ b. z ≡ cond b x y) j k f g

neg_one : (d : ℕ) → 1 < d → neg d 1 % d ≡ d - 1
neg_one d h = sym (neg_sub {m = d} {x = 1} (omega arith) (omega arith)).same ∙ mod-eq_of_lt (omega arith)

comm_xz : (d n j l : ℕ) → 1 < d → j < n → l < n → comm d (unit_x n j) (unit_z n l) ≡ cond (eqb (n + l) (j + n)) (d - 1) 0
comm_xz d n j l h a b = comm_unit_z d n l (unit_x n j) (omega arith) b ∙ pick_eqb (n + l) (j + n) (d - 1) 0 _
    (λ e. ap (λ (x : ℕ). neg d x % d) (ap (λ (i : ℕ). get_or (set (replicate n 0) j 1) i 0) (same_index e) ∙ single_same n j 1 a) ∙ neg_one d h)
    (λ e. ap (λ (x : ℕ). neg d x % d) (single_other n j 1 l (λ f. e (omega arith))) ∙ neg_zero d 0 (omega arith) refl)
  where
    same_index : n + l ≡ j + n → l ≡ j
    same_index e = omega arith

-- the commutation number of units j < k: −1 at a pair, else 0
pub comm_units : (d n j k : ℕ) → 1 < d → j < k → k < 2 * n → comm d (unit n j) (unit n k) ≡ cond (eqb k (j + n)) (d - 1) 0
comm_units d n j k h l m = unit_case (λ q. comm d (unit n j) q ≡ cond (eqb k (j + n)) (d - 1) 0) n k
    (λ b. rw (unit_x_lem n j (omega arith)) (comm_unit_x d n k (unit_x n j) (omega arith) b ∙ ap (λ (x : ℕ). x % d) (get_d_zeros n k) ∙ zero-mod d ∙ pick_eqb k (j + n) (d - 1) 0 0 (λ e. absurd (omega arith)) (λ e. refl)))
    (λ b. unit_case (λ p. comm d p (unit_z n (k - n)) ≡ cond (eqb k (j + n)) (d - 1) 0) n j
    (λ c. comm_xz d n j (k - n) h c (omega arith) ∙ ap (λ (i : ℕ). cond (eqb i (j + n)) (d - 1) 0) (omega arith))
    (λ c. comm_unit_z d n (k - n) (unit_z n (j - n)) (omega arith) (omega arith) ∙ ap (λ (x : ℕ). neg d x % d) (get_d_zeros n (k - n)) ∙ neg_zero d 0 (omega arith) refl
    ∙ pick_eqb k (j + n) (d - 1) 0 0 (λ e. absurd (omega arith)) (λ e. refl)))

-- ---- powers
power_phase : (d k x : ℕ) → x ≡ 0 → (k * 0 + k * (k - 1) * x) % (2 * d) ≡ 0
power_phase d k x e = ap (λ (y : ℕ). y % (2 * d)) (vanishes (k * (k - 1)) x e) ∙ zero-mod (2 * d)
  where
    vanishes : (s x : ℕ) → x ≡ 0 → k * 0 + s * x ≡ 0
    vanishes s x e = omega (arith, ap (λ (y : ℕ). s * y) e)

power_entry : (d k : ℕ) → k < d → k * 1 % d ≡ k
power_entry d k l = ap (λ (y : ℕ). y % d) (omega arith) ∙ mod-eq_of_lt l

unit_x_power : (d n i k : ℕ) → 1 < d → k < d → power d n (unit_x n i) k ≡ record { phase = 0; v = set (replicate n 0) i k; w = replicate n 0 }
unit_x_power d n i k h l = power_closed d n k (omega arith) (unit_x_range d n i h) ∙ pauli_path
    (power_phase d k _ (dot_zero_l n (set (replicate n 0) i 1)))
    (scaled_single d k n i 1 ∙ ap (set (replicate n 0) i) (power_entry d k l))
    (scaled_zeros d k n)

unit_z_power : (d n i k : ℕ) → 1 < d → k < d → power d n (unit_z n i) k ≡ record { phase = 0; v = replicate n 0; w = set (replicate n 0) i k }
unit_z_power d n i k h l = power_closed d n k (omega arith) (unit_z_range d n i h) ∙ pauli_path
    (power_phase d k _ (dot_zero_r n (set (replicate n 0) i 1)))
    (scaled_zeros d k n)
    (scaled_single d k n i 1 ∙ ap (set (replicate n 0) i) (power_entry d k l))

-- a power of a unit multiplied onto a Pauli whose entry there is still 0 puts the exponent there
keep_phase : (d h x : ℕ) → x ≡ 0 → h < 2 * d → (h + 0 + 2 * x) % (2 * d) ≡ h
keep_phase d h x e l = ap (λ (y : ℕ). y % (2 * d)) (omega arith) ∙ mod-eq_of_lt l

put : (d n i k : ℕ) (xs : List ℕ) → length xs ≡ n → Below d xs → get_or xs i 0 ≡ 0 → k < d → plus d xs (set (replicate n 0) i k) ≡ set xs i k
put d n i k xs e b f l = plus_single d n i k xs e b ∙ ap (set xs i) (ap (λ (y : ℕ). y % d) (omega arith) ∙ mod-eq_of_lt l)

pub put_x_lem : (d n h i k : ℕ) (xs : List ℕ) → 1 < d → h < 2 * d → length xs ≡ n → Below d xs → get_or xs i 0 ≡ 0 → k < d
    → product d (record { phase = h; v = xs; w = replicate n 0 }) (power d n (unit_x n i) k) ≡ record { phase = h; v = set xs i k; w = replicate n 0 }
put_x_lem d n h i k xs one g e b f l = ap (product d (record { phase = h; v = xs; w = replicate n 0 })) (unit_x_power d n i k one l) ∙ pauli_path
    (keep_phase d h _ (dot_zero_l n (set (replicate n 0) i k)) g)
    (put d n i k xs e b f l)
    (plus_zero_r d n (replicate n 0) (zeros_length n) (zeros_below (omega arith) n))

pub put_z_lem : (d n h i k : ℕ) (xs ys : List ℕ) → 1 < d → h < 2 * d → length xs ≡ n → Below d xs → length ys ≡ n → Below d ys → get_or ys i 0 ≡ 0 → k < d
    → product d (record { phase = h; v = xs; w = ys }) (power d n (unit_z n i) k) ≡ record { phase = h; v = xs; w = set ys i k }
put_z_lem d n h i k xs ys one g e b e' b' f l = ap (product d (record { phase = h; v = xs; w = ys })) (unit_z_power d n i k one l) ∙ pauli_path
    (keep_phase d h _ (dot_zero_r n ys) g)
    (plus_zero_r d n xs e b)
    (put d n i k ys e' b' f l)
