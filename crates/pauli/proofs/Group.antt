-- The group of Paulis: products, phases, commutation numbers and powers, for any d above 0.
use mathlib.Core.Path.{◌≡◌, refl, sym, ◌∙◌, ap}
use mathlib.Core.List.{[], ◌∷◌}
use Prim.Native.Nat.{ℕ, zero, suc, ◌+◌, ◌*◌, ◌-◌, ◌/◌, ◌%◌, ◌<◌}
use native.Mathlib.Nat.{mod-lt, mod-eq_of_lt, zero-mod, add-zero, add-suc, mod-add-div', eq_of_mul-eq-mul_left}
use native.Mathlib.Omega.{arith}
use lib.ListN.{replicate}
use Rattle.arith.proofs.Cong.{Cong, neg_law, cong_refl, cong_of_eq, cong_add, cong_scale, cong_intro, cong_elim, cong_mod, cong_cancel}
use Rattle.arith.specs.Residues.{neg}
use Rattle.arith.proofs.Ring.{ring₁, ring₁_by, ring₂, ring₂_by, times, ◌also◌, quote}
use Rattle.pauli.specs.Pauli.{Pauli, InRange, dot, plus, product, phase_only, power, comm, parity}
use Rattle.pauli.proofs.Sums.{scaled, plus_assoc, plus_zero_l, plus_zero_r, plus_comm, suc_entry, scaled_zero, scaled_all, scaled_suc}
use Rattle.pauli.proofs.Dots.{dot_plus_l, dot_plus_r, dot_comm, dot_zero_l, dot_zero_r, dot_scaled}
use Rattle.pauli.proofs.Ranges.{pauli_path, product_range, power_range, phase_range}

-- ---- products
assoc_phase : (d a b c x y z s t : ℕ) → 0 < d → Cong d s (y + z) → Cong d t (x + y) → Cong (2 * d) ((a + b + 2 * x) % (2 * d) + c + 2 * s) (a + (b + c + 2 * z) % (2 * d) + 2 * t)
assoc_phase d a b c x y z s t pos e f = ring₂_by d (a ∷ b ∷ c ∷ x ∷ y ∷ z ∷ s ∷ t ∷ []) pos
    (times {z = 1} (search quote) (search quote) (search quote) (cong_scale 2 e)
    also times {z = neg (2 * d) 1} (search quote) (search quote) (search quote) (cong_scale 2 f))
    (search quote depth 30) (search quote depth 30) tt

pub product_assoc : (d : ℕ) {n : ℕ} {p q r : Pauli} → 0 < d → InRange d n p → InRange d n q → InRange d n r → product d (product d p q) r ≡ product d p (product d q r)
product_assoc d {p = p} {q} {r} pos a b c = pauli_path
    (assoc_phase d p.phase q.phase r.phase (dot p.w q.v) (dot p.w r.v) (dot q.w r.v) _ _ pos
    (dot_plus_l d pos p.w q.w r.v (a.w_length ∙ sym b.w_length))
    (dot_plus_r d pos p.w q.v r.v (b.v_length ∙ sym c.v_length))).same
    (plus_assoc d pos p.v q.v r.v)
    (plus_assoc d pos p.w q.w r.w)

-- p with h more of phase
abbrev pub shifted : ℕ → ℕ → Pauli → Pauli
shifted d h p = record { phase = (h + p.phase) % (2 * d); v = p.v; w = p.w }

pub phase_left : (d n h : ℕ) {p : Pauli} → InRange d n p → product d (phase_only n h) p ≡ shifted d h p
phase_left d n h {p} a = pauli_path
    (ap (λ (x : ℕ). x % (2 * d)) (omega (arith, dot_zero_l n p.v)))
    (plus_zero_l d n p.v a.v_length a.v_below)
    (plus_zero_l d n p.w a.w_length a.w_below)

pub phase_right : (d n h : ℕ) {p : Pauli} → InRange d n p → product d p (phase_only n h) ≡ shifted d h p
phase_right d n h {p} a = pauli_path
    (ap (λ (x : ℕ). x % (2 * d)) (omega (arith, dot_zero_r n p.w)))
    (plus_zero_r d n p.v a.v_length a.v_below)
    (plus_zero_r d n p.w a.w_length a.w_below)

pub phase_central : (d n h : ℕ) {p : Pauli} → InRange d n p → product d (phase_only n h) p ≡ product d p (phase_only n h)
phase_central d n h a = phase_left d n h a ∙ sym (phase_right d n h a)

pub shifted_zero : {d n : ℕ} {p : Pauli} → InRange d n p → shifted d 0 p ≡ p
shifted_zero {d} {n} {p} a = pauli_path (ap (λ (x : ℕ). x % (2 * d)) (omega arith) ∙ mod-eq_of_lt a.phase_below) refl refl

pub one_left : {d n : ℕ} {p : Pauli} → InRange d n p → product d (phase_only n 0) p ≡ p
one_left {d} {n} a = phase_left d n 0 a ∙ shifted_zero a

pub one_right : {d n : ℕ} {p : Pauli} → InRange d n p → product d p (phase_only n 0) ≡ p
one_right {d} {n} a = phase_right d n 0 a ∙ shifted_zero a

-- ---- exchange
exchange_phase : (d a b x y z : ℕ) → 0 < d → z ≡ 0 → Cong (2 * d) (a + b + 2 * x) (2 * ((x + neg d y) % d) % (2 * d) + (b + a + 2 * y) % (2 * d) + 2 * z)
exchange_phase d a b x y z pos e = ring₂_by d (a ∷ b ∷ x ∷ y ∷ z ∷ []) pos
    (times {z = neg (2 * d) 2} (search quote) (search quote) (search quote) (cong_of_eq e)) (search quote depth 30) (search quote depth 30) tt

pub exchange : (d n : ℕ) {p q : Pauli} → 0 < d → InRange d n p → InRange d n q → product d p q ≡ product d (phase_only n (2 * comm d p q % (2 * d))) (product d q p)
exchange d n {p} {q} pos a b = pauli_path
    (rw (dot_comm p.v q.w) (exchange_phase d p.phase q.phase (dot p.w q.v) (dot q.w p.v) (dot (replicate n 0) (plus d q.v p.v)) pos (dot_zero_l n (plus d q.v p.v))).same)
    (plus_comm d p.v q.v ∙ sym (plus_zero_l d n (plus d q.v p.v) c.v_length c.v_below))
    (plus_comm d p.w q.w ∙ sym (plus_zero_l d n (plus d q.w p.w) c.w_length c.w_below))
  where
    c : InRange d n (product d q p)
    c = product_range pos b a

-- ---- commutation numbers
pub comm_below : (d : ℕ) (p q : Pauli) → 0 < d → comm d p q < d
comm_below d p q pos = mod-lt (dot p.w q.v + neg d (dot p.v q.w)) pos

comm_sum : (d s t a b c e : ℕ) → 0 < d → Cong d s (a + b) → Cong d t (c + e) → Cong d (s + neg d t) ((a + neg d c) % d + (b + neg d e) % d)
comm_sum d s t a b c e pos f g = ring₁_by d (s ∷ t ∷ a ∷ b ∷ c ∷ e ∷ []) pos
    (times {z = 1} (search quote) (search quote) (search quote) f also times {z = neg d 1} (search quote) (search quote) (search quote) g)
    (search quote depth 30) (search quote depth 30) tt

pub comm_product_l : (d : ℕ) {n : ℕ} {p q : Pauli} (r : Pauli) → 0 < d → InRange d n p → InRange d n q → comm d (product d p q) r ≡ (comm d p r + comm d q r) % d
comm_product_l d {p = p} {q} r pos a b = (comm_sum d _ _ (dot p.w r.v) (dot q.w r.v) (dot p.v r.w) (dot q.v r.w) pos
    (dot_plus_l d pos p.w q.w r.v (a.w_length ∙ sym b.w_length))
    (dot_plus_l d pos p.v q.v r.w (a.v_length ∙ sym b.v_length))).same

pub comm_product_r : (d : ℕ) {n : ℕ} {q r : Pauli} (p : Pauli) → 0 < d → InRange d n q → InRange d n r → comm d p (product d q r) ≡ (comm d p q + comm d p r) % d
comm_product_r d {q = q} {r} p pos a b = (comm_sum d _ _ (dot p.w q.v) (dot p.w r.v) (dot p.v q.w) (dot p.v r.w) pos
    (dot_plus_r d pos p.w q.v r.v (a.v_length ∙ sym b.v_length))
    (dot_plus_r d pos p.v q.w r.w (a.w_length ∙ sym b.w_length))).same

skew_algebra : (d x y : ℕ) → 0 < d → Cong d (x + neg d y) (neg d ((y + neg d x) % d))
skew_algebra d x y pos = ring₁ d (x ∷ y ∷ []) pos (search quote depth 30) (search quote depth 30) tt

pub comm_skew : (d : ℕ) (p q : Pauli) → 0 < d → comm d p q ≡ neg d (comm d q p) % d
comm_skew d p q pos = rw (dot_comm q.w p.v, dot_comm q.v p.w) (skew_algebra d (dot p.w q.v) (dot p.v q.w) pos).same

pub comm_phase_l : (d n h : ℕ) (q : Pauli) → 0 < d → comm d (phase_only n h) q ≡ 0
comm_phase_l d n h q pos = rw (dot_zero_l n q.v, dot_zero_l n q.w) ((neg_law pos 0).same ∙ zero-mod d)

pub comm_phase_r : (d n h : ℕ) (q : Pauli) → 0 < d → comm d q (phase_only n h) ≡ 0
comm_phase_r d n h q pos = rw (dot_zero_r n q.v, dot_zero_r n q.w) ((neg_law pos 0).same ∙ zero-mod d)

pub comm_power_l : (d n : ℕ) {p : Pauli} (q : Pauli) (k : ℕ) → 0 < d → InRange d n p → comm d (power d n p k) q ≡ k * comm d p q % d
comm_power_l d n {p} q zero pos a = comm_phase_l d n 0 q pos ∙ sym (zero-mod d) ∙ ap (λ (x : ℕ). x % d) (omega arith)
comm_power_l d n {p} q (suc k) pos a =
    comm_product_l d q pos (power_range k pos a) a
    ∙ ap (λ (x : ℕ). (x + comm d p q) % d) (comm_power_l d n q k pos a)
    ∙ (suc_entry d k (comm d p q) pos).same
    ∙ ap (λ (x : ℕ). x * comm d p q % d) (omega arith)

pub comm_power_r : (d n : ℕ) {p : Pauli} (q : Pauli) (k : ℕ) → 0 < d → InRange d n p → comm d q (power d n p k) ≡ k * comm d q p % d
comm_power_r d n {p} q zero pos a = comm_phase_r d n 0 q pos ∙ sym (zero-mod d) ∙ ap (λ (x : ℕ). x % d) (omega arith)
comm_power_r d n {p} q (suc k) pos a =
    comm_product_r d q pos (power_range k pos a) a
    ∙ ap (λ (x : ℕ). (x + comm d q p) % d) (comm_power_r d n q k pos a)
    ∙ (suc_entry d k (comm d q p) pos).same
    ∙ ap (λ (x : ℕ). x * comm d q p % d) (omega arith)

-- ---- powers
pub power_add : (d n : ℕ) {p : Pauli} (k l : ℕ) → 0 < d → InRange d n p → power d n p (k + l) ≡ product d (power d n p k) (power d n p l)
power_add d n {p} k zero pos a = ap (power d n p) (add-zero k) ∙ sym (one_right (power_range k pos a))
power_add d n {p} k (suc l) pos a =
    ap (power d n p) (add-suc k l)
    ∙ ap (λ (x : Pauli). product d x p) (power_add d n k l pos a)
    ∙ product_assoc d pos (power_range k pos a) (power_range l pos a) a

-- the closed form: k·h + k·(k − 1)·(w·v), and k times the entries
abbrev pub powered : ℕ → Pauli → ℕ → Pauli
powered d p k = record {
  phase = (k * p.phase + k * (k - 1) * dot p.w p.v) % (2 * d);
  v = scaled d k p.v;
  w = scaled d k p.w;
}

sub_one : (k : ℕ) → suc k - 1 ≡ k
sub_one k = omega arith

pub next_square : (k : ℕ) → k * (k - 1) + k ≡ k * k
next_square zero = refl
next_square (suc k) = rw (sub_one k) (omega arith)

next_form : (k h x : ℕ) → (k + 1) * h + (k + 1) * k * x ≡ suc k * h + suc k * (suc k - 1) * x
next_form k h x = rw (sub_one k) (omega arith)

closed_phase : (d k h x y : ℕ) → 0 < d → Cong d y (k * x) → (s : ℕ) → s + k ≡ k * k → Cong (2 * d) ((k * h + s * x) % (2 * d) + h + 2 * y) ((k + 1) * h + (k + 1) * k * x)
closed_phase d k h x y pos e s f = ring₂_by d (k ∷ h ∷ x ∷ y ∷ s ∷ []) pos
    (times {z = 1} (search quote) (search quote) (search quote) (cong_scale 2 e) also times {z = x} (search quote) (search quote) (search quote) (cong_of_eq f))
    (search quote depth 30) (search quote depth 30) tt

pub power_closed : (d n : ℕ) {p : Pauli} (k : ℕ) → 0 < d → InRange d n p → power d n p k ≡ powered d p k
power_closed d n {p} zero pos a = pauli_path
    (sym (zero-mod (2 * d)) ∙ ap (λ (x : ℕ). x % (2 * d)) (omega arith))
    (sym (scaled_zero d n p.v a.v_length))
    (sym (scaled_zero d n p.w a.w_length))
power_closed d n {p} (suc k) pos a = ap (λ (x : Pauli). product d x p) (power_closed d n k pos a) ∙ pauli_path
    ((closed_phase d k p.phase (dot p.w p.v) _ pos (dot_scaled d k pos p.w p.v) (k * (k - 1)) (next_square k)).same ∙ ap (λ (x : ℕ). x % (2 * d)) (next_form k p.phase (dot p.w p.v)))
    (scaled_suc d k pos p.v)
    (scaled_suc d k pos p.w)

-- the d-th power: the identity exactly where the parity is even
pub power_full : (d n : ℕ) {p : Pauli} → 0 < d → InRange d n p → power d n p d ≡ phase_only n (d * (p.phase + (d - 1) * dot p.w p.v) % (2 * d))
power_full d n {p} pos a = power_closed d n d pos a ∙ pauli_path
    (ap (λ (x : ℕ). x % (2 * d)) (omega arith))
    (scaled_all d p.v ∙ scaled_zero d n p.v a.v_length)
    (scaled_all d p.w ∙ scaled_zero d n p.w a.w_length)

even_full : (d x : ℕ) → x % 2 ≡ 0 → d * x % (2 * d) ≡ 0
even_full d x e = (cong_intro {m = 2 * d} {a = d * x} {b = 0} 0 (x / 2) (omega (arith, ap (λ (y : ℕ). d * y) (mod-add-div' x 2), ap (λ (y : ℕ). d * y) e))).same ∙ zero-mod (2 * d)

-- d·x modulo 2·d tells the parity of x
pub full_parity : (d x y : ℕ) → 0 < d → Cong (2 * d) (d * x) (d * y) → x % 2 ≡ y % 2
full_parity d x y pos h =
    let z = cong_elim h in
    (cong_intro {m = 2} {a = x} {b = y} z.k z.l (eq_of_mul-eq-mul_left d pos (x + z.k * 2) (y + z.l * 2) (omega (arith, z.eq)))).same

pub power_even : (d n : ℕ) {p : Pauli} → 0 < d → InRange d n p → parity d p ≡ 0 → power d n p d ≡ phase_only n 0
power_even d n {p} pos a e = power_full d n pos a ∙ ap (phase_only n) (even_full d (p.phase + (d - 1) * dot p.w p.v) e)

pub even_power : (d n : ℕ) {p : Pauli} → 0 < d → InRange d n p → power d n p d ≡ phase_only n 0 → parity d p ≡ 0
even_power d n {p} pos a e = full_parity d (p.phase + (d - 1) * dot p.w p.v) 0 pos
    (record { same = sym (ap (λ (x : Pauli). x.phase) (power_full d n pos a)) ∙ ap (λ (x : Pauli). x.phase) e ∙ sym (zero-mod (2 * d)) ∙ ap (λ (x : ℕ). x % (2 * d)) (omega arith) })

-- where it is even, exponents count modulo d
turns_zero : (d k : ℕ) → k + 0 * d ≡ k
turns_zero d k = omega arith

turns_suc : (d k m : ℕ) → k + suc m * d ≡ k + m * d + d
turns_suc d k m = omega arith

power_turns : (d n : ℕ) {p : Pauli} (k m : ℕ) → 0 < d → InRange d n p → parity d p ≡ 0 → power d n p (k + m * d) ≡ power d n p k
power_turns d n {p} k zero pos a e = ap (power d n p) (turns_zero d k)
power_turns d n {p} k (suc m) pos a e =
    ap (power d n p) (turns_suc d k m)
    ∙ power_add d n (k + m * d) d pos a
    ∙ ap (λ (x : Pauli). product d (power d n p (k + m * d)) x) (power_even d n pos a e)
    ∙ one_right (power_range (k + m * d) pos a)
    ∙ power_turns d n k m pos a e

pub power_cong : (d n : ℕ) {p : Pauli} {k l : ℕ} → 0 < d → InRange d n p → parity d p ≡ 0 → Cong d k l → power d n p k ≡ power d n p l
power_cong d n {p} {k} {l} pos a e h =
    let z = cong_elim h in
    sym (power_turns d n k z.k pos a e) ∙ ap (power d n p) z.eq ∙ power_turns d n l z.l pos a e

pub power_mod : (d n : ℕ) {p : Pauli} (k : ℕ) → 0 < d → InRange d n p → parity d p ≡ 0 → power d n p (k % d) ≡ power d n p k
power_mod d n k pos a e = power_cong d n pos a e (cong_mod k)

-- ---- shifts of phase go in front
shifted_product : (d h x y z : ℕ) → 0 < d → Cong (2 * d) ((h + x) % (2 * d) + y + z) (h + (x + y + z) % (2 * d))
shifted_product d h x y z pos = ring₂ d (h ∷ x ∷ y ∷ z ∷ []) pos (search quote depth 30) (search quote depth 30) tt

shifted_second : (d h x y z : ℕ) → 0 < d → Cong (2 * d) (x + (h + y) % (2 * d) + z) (h + (x + y + z) % (2 * d))
shifted_second d h x y z pos = ring₂ d (h ∷ x ∷ y ∷ z ∷ []) pos (search quote depth 30) (search quote depth 30) tt

shifted_twice : (d g h x : ℕ) → 0 < d → Cong (2 * d) (g + (h + x) % (2 * d)) (g + h + x)
shifted_twice d g h x pos = ring₂ d (g ∷ h ∷ x ∷ []) pos (search quote depth 30) (search quote depth 30) tt

pub shift_left : (d h : ℕ) (p q : Pauli) → 0 < d → product d (shifted d h p) q ≡ shifted d h (product d p q)
shift_left d h p q pos = pauli_path (shifted_product d h p.phase q.phase (2 * dot p.w q.v) pos).same refl refl

pub shift_right : (d h : ℕ) (p q : Pauli) → 0 < d → product d p (shifted d h q) ≡ shifted d h (product d p q)
shift_right d h p q pos = pauli_path (shifted_second d h p.phase q.phase (2 * dot p.w q.v) pos).same refl refl

pub shift_shift : (d g h : ℕ) (p : Pauli) → 0 < d → shifted d g (shifted d h p) ≡ shifted d (g + h) p
shift_shift d g h p pos = pauli_path (shifted_twice d g h p.phase pos).same refl refl

pub shift_cong : (d : ℕ) {g h : ℕ} (p : Pauli) → Cong (2 * d) g h → shifted d g p ≡ shifted d h p
shift_cong d p e = pauli_path (cong_add e (cong_refl p.phase)).same refl refl

pub shift_cancel : (d g h : ℕ) (p : Pauli) → shifted d g p ≡ shifted d h p → Cong (2 * d) g h
shift_cancel d g h p e = cong_cancel p.phase (record { same = ap (λ (x : Pauli). x.phase) e })

pub shift_range : {d n : ℕ} {p : Pauli} (h : ℕ) → 0 < d → InRange d n p → InRange d n (shifted d h p)
shift_range {p = p} h pos a = phase_range a (mod-lt (h + p.phase) (omega arith))

pub exchange_shift : (d n : ℕ) {p q : Pauli} → 0 < d → InRange d n p → InRange d n q → product d p q ≡ shifted d (2 * comm d p q) (product d q p)
exchange_shift d n {p} {q} pos a b =
    exchange d n pos a b
    ∙ phase_left d n (2 * comm d p q % (2 * d)) (product_range pos b a)
    ∙ shift_cong d (product d q p) (cong_mod (2 * comm d p q))

-- (a p)(b q) with b brought before p
pub exchange_middle : (d n : ℕ) {a p b q : Pauli} → 0 < d → InRange d n a → InRange d n p → InRange d n b → InRange d n q
    → product d (product d a p) (product d b q) ≡ shifted d (2 * comm d p b) (product d (product d a b) (product d p q))
exchange_middle d n {a} {p} {b} {q} pos ra rp rb rq =
    product_assoc d pos ra rp (product_range pos rb rq)
    ∙ ap (product d a)
    (sym (product_assoc d pos rp rb rq)
    ∙ ap (λ (x : Pauli). product d x q) (exchange_shift d n pos rp rb)
    ∙ shift_left d c (product d b p) q pos
    ∙ ap (shifted d c) (product_assoc d pos rb rp rq))
    ∙ shift_right d c a (product d b (product d p q)) pos
    ∙ ap (shifted d c) (sym (product_assoc d pos ra rb (product_range pos rp rq)))
  where
    c : ℕ
    c = 2 * comm d p b
