-- Congruence modulo m on the native ℕ, as a relation that antt can read implicit arguments off.
-- `Cong m a b` says that a and b leave the same remainder. At m = 0 it is equality.
use mathlib.Core.Path.{◌≡◌, refl, sym, ◌∙◌, ap, ap₂}
use Prim.Native.Nat.{ℕ, zero, suc, ◌+◌, ◌*◌, ◌-◌, ◌/◌, ◌%◌, ◌≤◌, ◌<◌}
use native.Mathlib.Nat.{add-mul-mod_self_right, mod-add-div', mod-eq_of_lt, mod-lt, mod-mod}
use native.Mathlib.Omega.{arith}
use Rattle.arith.specs.Residues.{neg}

-- A record, and not a name for the equation: its parameters are then read off a goal, so that the laws below take m, a, b implicitly.
pub record Cong (m a b : ℕ) : Type 0 where
  pub same : a % m ≡ b % m

-- the two ways in and out by witnesses: a + k·m = b + l·m
pub cong_intro : {m a b : ℕ} (k l : ℕ) → a + k * m ≡ b + l * m → Cong m a b
cong_intro {m} {a} {b} k l e = record { same = sym (add-mul-mod_self_right a k m) ∙ ap (λ (x : ℕ). x % m) e ∙ add-mul-mod_self_right b l m }

pub record Witness (m a b : ℕ) : Type 0 where
  pub k : ℕ
  pub l : ℕ
  pub eq : a + k * m ≡ b + l * m

pub cong_elim : {m a b : ℕ} → Cong m a b → Witness m a b
cong_elim {m} {a} {b} h = record { k = b / m; l = a / m; eq = omega (arith, mod-add-div' a m, mod-add-div' b m, h.same) }

-- an equivalence
pub cong_refl : {m : ℕ} (a : ℕ) → Cong m a a
cong_refl a = record { same = refl }

pub cong_of_eq : {m a b : ℕ} → a ≡ b → Cong m a b
cong_of_eq {m} e = record { same = ap (λ (x : ℕ). x % m) e }

pub cong_sym : {m a b : ℕ} → Cong m a b → Cong m b a
cong_sym h = record { same = sym h.same }

pub cong_trans : {m a b c : ℕ} → Cong m a b → Cong m b c → Cong m a c
cong_trans h k = record { same = h.same ∙ k.same }

-- compatible with sums and products
pub cong_add : {m a b c d : ℕ} → Cong m a b → Cong m c d → Cong m (a + c) (b + d)
cong_add h h' = let w = cong_elim h in let w' = cong_elim h' in cong_intro (w.k + w'.k) (w.l + w'.l) (omega arith)

pub cong_mul : {m a b c d : ℕ} → Cong m a b → Cong m c d → Cong m (a * c) (b * d)
cong_mul {m} {a} {b} {c} {d} h h' =
    let w = cong_elim h in
    let w' = cong_elim h' in
    cong_intro (a * w'.k + w.k * c + w.k * w'.k * m) (b * w'.l + w.l * d + w.l * w'.l * m) (omega (arith, ap₂ ◌*◌ w.eq w'.eq))

-- a summand may be dropped from both sides
pub cong_cancel : {m a b : ℕ} (c : ℕ) → Cong m (a + c) (b + c) → Cong m a b
cong_cancel c h = let w = cong_elim h in cong_intro w.k w.l (omega arith)

-- a remainder is congruent to what it is a remainder of; below m, congruent numbers are equal
pub cong_mod : {m : ℕ} (a : ℕ) → Cong m (a % m) a
cong_mod {m} a = record { same = mod-mod a m }

pub cong_eq : {m a b : ℕ} → Cong m a b → a < m → b < m → a ≡ b
cong_eq h p q = sym (mod-eq_of_lt p) ∙ h.same ∙ mod-eq_of_lt q

-- multiples: x ≡ y (mod m) gives c·x ≡ c·y (mod c·m), and a congruence modulo c·m holds modulo m
pub cong_scale : {m a b : ℕ} (c : ℕ) → Cong m a b → Cong (c * m) (c * a) (c * b)
cong_scale c h = let w = cong_elim h in cong_intro w.k w.l (omega (arith, ap (λ (x : ℕ). c * x) w.eq))

pub cong_weaken : {m a b : ℕ} (c : ℕ) → Cong (c * m) a b → Cong m a b
cong_weaken c h = let w = cong_elim h in cong_intro (w.k * c) (w.l * c) (omega arith)

-- the negative
pub neg_law : {m : ℕ} → 0 < m → (x : ℕ) → Cong m (x + neg m x) 0
unfolding neg
neg_law {m} p x = cong_intro 0 (x / m + 1) (omega (arith, mod-add-div' x m, mod-lt x p))

-- what code computes: m - x at an x that is at most m
pub neg_sub : {m x : ℕ} → 0 < m → x ≤ m → Cong m (m - x) (neg m x)
neg_sub {m} {x} p h = cong_cancel x (cong_trans (cong_intro 0 1 (omega arith)) (cong_trans (cong_sym (neg_law p x)) (cong_of_eq (omega arith))))

-- ---- x·(x + d) modulo 2·d depends on x modulo d only
-- q·(q + 1) is even
even_next : (q : ℕ) → (j : ℕ) × (q * (q + 1) ≡ 2 * j)
even_next zero = (0, refl)
even_next (suc q) = let i = even_next q in (i.0 + q + 1, omega (arith, i.1))

square_shift : (d x k : ℕ) → Cong (2 * d) (x * (x + d)) ((x + k * d) * (x + k * d + d))
square_shift d x k = let i = even_next k in cong_intro (k * x + d * i.0) 0 (omega (arith, ap (λ (y : ℕ). d * d * y) i.1))

pub square_cong : {d x y : ℕ} → Cong d x y → Cong (2 * d) (x * (x + d)) (y * (y + d))
square_cong {d} {x} {y} h =
    let w = cong_elim h in
    cong_trans (square_shift d x w.k) (cong_trans (cong_of_eq (ap (λ (z : ℕ). z * (z + d)) w.eq)) (cong_sym (square_shift d y w.l)))

-- the factors of a positive number are positive
pub factor_pos : {d : ℕ} (g q : ℕ) → 0 < d → d ≡ g * q → (0 < g) × (0 < q)
factor_pos zero q p e = absurd (omega arith)
factor_pos (suc g) zero p e = absurd (omega arith)
factor_pos (suc g) (suc q) p e = omega arith
