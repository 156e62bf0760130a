-- A solver for congruences between ring expressions over ℕ: sums, products, numerals, negatives and remainders, modulo d, modulo 2·d, or modulo a numeral.
-- The two sides are quoted (`Q`), normalised to polynomials whose coefficients are differences p − q (`Poly`), and compared by computing.
-- The number that is quoted is the index of its quotation, so antt checks that a quotation is of the expression in the goal, and `search quote` finds it.
--
--     ring₁ d (x ∷ y ∷ []) p (search quote depth 30) (search quote depth 30) tt : Cong d LEFT RIGHT          -- p : 0 < d
--     ring₂ d (x ∷ y ∷ []) p (search quote depth 30) (search quote depth 30) tt : Cong (2 * d) LEFT RIGHT
--     ringₙ 2 (x ∷ y ∷ []) p (search quote depth 30) (search quote depth 30) tt : Cong 2 LEFT RIGHT          -- any numeral, p : 0 < 2
--     ring₁_by d (x ∷ y ∷ []) p (times {z = X} (search quote) (search quote) (search quote) h) ..            -- with h : Cong d A B, taken X times
--
-- The list holds the unknowns ("atoms") of the two sides besides d, each any term: `x`, `x % d`, `dot v w`. At most twelve; for more add rules at13, ..
-- `ring₁_by` proves LEFT ≡ RIGHT where LEFT − RIGHT is the sum of the X·(A − B). Of a numeral above 4, list its quotation: `search (quote, con 17) depth 30`.
-- Refused with `⊥` against `Unit` at `tt`: the two sides are not equal as polynomials. Refused at `search`: a part is no atom, sum, product, negative or remainder.
use mathlib.Core.Path.{◌≡◌, refl, sym, ◌∙◌, ap, ap₂, subst}
use mathlib.Core.List.{List, [], ◌∷◌}
use mathlib.Core.Bool.{Bool, ◌&&◌}
use Prim.Native.Nat.{ℕ, zero, suc, ◌+◌, ◌*◌, ◌-◌, ◌%◌, ◌≤◌, ◌<◌}
use native.Mathlib.Nat.{add-zero, zero-add, mod-zero, mul-zero, one-mul}
use native.Mathlib.Omega.{arith}
use lib.Dec.{T, eqb, eqb→eq}
use Rattle.arith.proofs.Cases.{and_l, and_r}
use Rattle.arith.proofs.Cong.{Cong, cong_intro, cong_elim, cong_refl, cong_sym, cong_trans, cong_add, cong_mul, cong_cancel, cong_of_eq, cong_scale, cong_weaken, cong_mod, neg_law, factor_pos, square_cong}
use Rattle.arith.specs.Residues.{neg}

-- ---- polynomials. `lit p q` is the constant p − q. `node a b` is a + x·b, x the first variable: b has x again, a has the variables after x.
pub data Poly : Type 0 where
  lit : ℕ → ℕ → Poly
  node : Poly → Poly → Poly

-- the part that is added, and the part that is taken away
abbrev pub up : Poly → List ℕ → ℕ
up (lit p q) ρ = p
up (node a b) [] = up a []
up (node a b) (x ∷ ρ) = up a ρ + x * up b (x ∷ ρ)

abbrev pub dn : Poly → List ℕ → ℕ
dn (lit p q) ρ = q
dn (node a b) [] = dn a []
dn (node a b) (x ∷ ρ) = dn a ρ + x * dn b (x ∷ ρ)

abbrev pub pcon : ℕ → ℕ → Poly → Poly
pcon p q (lit r s) = lit (p + r) (q + s)
pcon p q (node a b) = node (pcon p q a) b

abbrev pub padd : Poly → Poly → Poly
padd (lit p q) t = pcon p q t
padd (node a b) (lit r s) = node (pcon r s a) b
padd (node a b) (node c e) = node (padd a c) (padd b e)

abbrev pub pneg : Poly → Poly
pneg (lit p q) = lit q p
pneg (node a b) = node (pneg a) (pneg b)

abbrev pub pscale : ℕ → ℕ → Poly → Poly
pscale p q (lit r s) = lit (p * r + q * s) (p * s + q * r)
pscale p q (node a b) = node (pscale p q a) (pscale p q b)

-- f multiplies by a polynomial in the variables after the first; this multiplies by the same one level up
abbrev pub lift : (Poly → Poly) → Poly → Poly
lift f (lit p q) = node (f (lit p q)) (lit 0 0)
lift f (node c e) = node (f c) (lift f e)

abbrev pub pmul : Poly → Poly → Poly
pmul (lit p q) t = pscale p q t
pmul (node a b) t = padd (lift (pmul a) t) (node (lit 0 0) (pmul b t))

abbrev pub pvar : ℕ → Poly
pvar zero = node (lit 0 0) (lit 1 0)
pvar (suc i) = node (pvar i) (lit 0 0)

-- ---- what each operation means
up_pcon : (p q : ℕ) (t : Poly) (ρ : List ℕ) → up (pcon p q t) ρ ≡ p + up t ρ
up_pcon p q (lit r s) ρ = refl
up_pcon p q (node a b) [] = up_pcon p q a []
up_pcon p q (node a b) (x ∷ ρ) = omega (arith, up_pcon p q a ρ)

dn_pcon : (p q : ℕ) (t : Poly) (ρ : List ℕ) → dn (pcon p q t) ρ ≡ q + dn t ρ
dn_pcon p q (lit r s) ρ = refl
dn_pcon p q (node a b) [] = dn_pcon p q a []
dn_pcon p q (node a b) (x ∷ ρ) = omega (arith, dn_pcon p q a ρ)

up_padd : (s t : Poly) (ρ : List ℕ) → up (padd s t) ρ ≡ up s ρ + up t ρ
up_padd (lit p q) t ρ = up_pcon p q t ρ
up_padd (node a b) (lit r s) [] = omega (arith, up_pcon r s a [])
up_padd (node a b) (lit r s) (x ∷ ρ) = omega (arith, up_pcon r s a ρ)
up_padd (node a b) (node c e) [] = up_padd a c []
up_padd (node a b) (node c e) (x ∷ ρ) = omega (arith, up_padd a c ρ, ap (λ (y : ℕ). x * y) (up_padd b e (x ∷ ρ)))

dn_padd : (s t : Poly) (ρ : List ℕ) → dn (padd s t) ρ ≡ dn s ρ + dn t ρ
dn_padd (lit p q) t ρ = dn_pcon p q t ρ
dn_padd (node a b) (lit r s) [] = omega (arith, dn_pcon r s a [])
dn_padd (node a b) (lit r s) (x ∷ ρ) = omega (arith, dn_pcon r s a ρ)
dn_padd (node a b) (node c e) [] = dn_padd a c []
dn_padd (node a b) (node c e) (x ∷ ρ) = omega (arith, dn_padd a c ρ, ap (λ (y : ℕ). x * y) (dn_padd b e (x ∷ ρ)))

up_pneg : (t : Poly) (ρ : List ℕ) → up (pneg t) ρ ≡ dn t ρ
up_pneg (lit p q) ρ = refl
up_pneg (node a b) [] = up_pneg a []
up_pneg (node a b) (x ∷ ρ) = ap₂ (λ (y z : ℕ). y + x * z) (up_pneg a ρ) (up_pneg b (x ∷ ρ))

dn_pneg : (t : Poly) (ρ : List ℕ) → dn (pneg t) ρ ≡ up t ρ
dn_pneg (lit p q) ρ = refl
dn_pneg (node a b) [] = dn_pneg a []
dn_pneg (node a b) (x ∷ ρ) = ap₂ (λ (y z : ℕ). y + x * z) (dn_pneg a ρ) (dn_pneg b (x ∷ ρ))

-- both halves of a product at once: (u − v)·(u' − v') is (u·u' + v·v') − (u·v' + v·u')
record Prod (r : Poly) (ρ : List ℕ) (u v u' v' : ℕ) : Type 0 where
  hi : up r ρ ≡ u * u' + v * v'
  lo : dn r ρ ≡ u * v' + v * u'

pscale_law : (p q : ℕ) (t : Poly) (ρ : List ℕ) → Prod (pscale p q t) ρ p q (up t ρ) (dn t ρ)
pscale_law p q (lit r s) ρ = record { hi = refl; lo = refl }
pscale_law p q (node a b) [] = let i = pscale_law p q a [] in record { hi = i.hi; lo = i.lo }
pscale_law p q (node a b) (x ∷ ρ) =
    let i = pscale_law p q a ρ in
    let j = pscale_law p q b (x ∷ ρ) in
    record { hi = omega (arith, ap (λ (y : ℕ). x * y) j.hi); lo = omega (arith, ap (λ (y : ℕ). x * y) j.lo) }

lift_law : (f : Poly → Poly) (x : ℕ) (ρ : List ℕ) (u v : ℕ) → ((t : Poly) → Prod (f t) ρ u v (up t ρ) (dn t ρ)) → (t : Poly) → Prod (lift f t) (x ∷ ρ) u v (up t (x ∷ ρ)) (dn t (x ∷ ρ))
lift_law f x ρ u v h (lit p q) = let i = h (lit p q) in record { hi = omega arith; lo = omega arith }
lift_law f x ρ u v h (node c e) =
    let i = h c in
    let j = lift_law f x ρ u v h e in
    record { hi = omega (arith, ap (λ (y : ℕ). x * y) j.hi); lo = omega (arith, ap (λ (y : ℕ). x * y) j.lo) }

-- with no variable left, the first one counts as 0
lift_law0 : (f : Poly → Poly) (u v : ℕ) → ((t : Poly) → Prod (f t) [] u v (up t []) (dn t [])) → (t : Poly) → Prod (lift f t) [] u v (up t []) (dn t [])
lift_law0 f u v h (lit p q) = let i = h (lit p q) in record { hi = i.hi; lo = i.lo }
lift_law0 f u v h (node c e) = let i = h c in record { hi = i.hi; lo = i.lo }

pmul_law : (s t : Poly) (ρ : List ℕ) → Prod (pmul s t) ρ (up s ρ) (dn s ρ) (up t ρ) (dn t ρ)
pmul_law (lit p q) t ρ = pscale_law p q t ρ
pmul_law (node a b) t [] =
    let i = lift_law0 (pmul a) (up a []) (dn a []) (λ u. pmul_law a u []) t in
    record { hi = omega (arith, up_padd (lift (pmul a) t) (node (lit 0 0) (pmul b t)) []); lo = omega (arith, dn_padd (lift (pmul a) t) (node (lit 0 0) (pmul b t)) []) }
pmul_law (node a b) t (x ∷ ρ) =
    let i = lift_law (pmul a) x ρ (up a ρ) (dn a ρ) (λ u. pmul_law a u ρ) t in
    let j = pmul_law b t (x ∷ ρ) in
    record {
      hi = omega (arith, up_padd (lift (pmul a) t) (node (lit 0 0) (pmul b t)) (x ∷ ρ), ap (λ (y : ℕ). x * y) j.hi);
      lo = omega (arith, dn_padd (lift (pmul a) t) (node (lit 0 0) (pmul b t)) (x ∷ ρ), ap (λ (y : ℕ). x * y) j.lo);
    }

-- ---- quotations: `Q ρ m x` holds the expressions that stand for x modulo m, over the atoms ρ
abbrev pub nth : List ℕ → ℕ → ℕ
nth [] i = 0
nth (x ∷ ρ) zero = x
nth (x ∷ ρ) (suc i) = nth ρ i

infixl 6 ◌⊕◌
infixl 7 ◌⊗◌
pub data Q (ρ : List ℕ) : ℕ → ℕ → Type 0 where
  var : {m : ℕ} (i : ℕ) → Q ρ m (nth ρ i)
  con : {m : ℕ} (k : ℕ) → Q ρ m k
  ◌⊕◌ : {m x y : ℕ} → Q ρ m x → Q ρ m y → Q ρ m (x + y)
  ◌⊗◌ : {m x y : ℕ} → Q ρ m x → Q ρ m y → Q ρ m (x * y)
  -- negatives, and m - x as code computes it
  minus : {m x : ℕ} → Q ρ m x → Q ρ m (neg m x)
  less : {m x : ℕ} → x ≤ m → Q ρ m x → Q ρ m (m - x)
  -- a remainder modulo m, or modulo a multiple of m, is the number itself
  rem : {m x : ℕ} → Q ρ m x → Q ρ m (x % m)
  rem_of : {m x : ℕ} (c : ℕ) → Q ρ m x → Q ρ m (x % (c * m))
  -- c·x modulo c·m needs x modulo m only, and x·(x + d) modulo 2·d needs x modulo d only
  scale : {m x : ℕ} (c : ℕ) → Q ρ m x → Q ρ (c * m) (c * x)
  square : {d x : ℕ} → Q ρ d x → Q ρ (2 * d) d → Q ρ (2 * d) (x * (x + d))

abbrev pub norm : {ρ : List ℕ} {m x : ℕ} → Q ρ m x → Poly
norm (var i) = pvar i
norm (con k) = lit k 0
norm (a ⊕ b) = padd (norm a) (norm b)
norm (a ⊗ b) = pmul (norm a) (norm b)
norm (minus a) = pneg (norm a)
norm (less h a) = pneg (norm a)
norm (rem a) = norm a
norm (rem_of c a) = norm a
norm (scale c a) = pscale c 0 (norm a)
norm (square a b) = pmul (norm a) (padd (norm a) (norm b))

up_pvar : (i : ℕ) (ρ : List ℕ) → up (pvar i) ρ ≡ nth ρ i
up_pvar zero [] = refl
up_pvar zero (x ∷ ρ) = omega arith
up_pvar (suc i) [] = up_pvar i [] ∙ nth_nil i
  where
    nth_nil : (i : ℕ) → nth [] i ≡ 0
    nth_nil i = refl
up_pvar (suc i) (x ∷ ρ) = omega (arith, up_pvar i ρ)

dn_pvar : (i : ℕ) (ρ : List ℕ) → dn (pvar i) ρ ≡ 0
dn_pvar zero [] = refl
dn_pvar zero (x ∷ ρ) = omega arith
dn_pvar (suc i) [] = dn_pvar i []
dn_pvar (suc i) (x ∷ ρ) = omega (arith, dn_pvar i ρ)

-- x is the difference u − v modulo m
record Diff (m x u v : ℕ) : Type 0 where
  diff : Cong m (x + v) u

add_step : {m a u v b u' v' : ℕ} → Diff m a u v → Diff m b u' v' → Diff m (a + b) (u + u') (v + v')
add_step {a = a} {v = v} {b = b} {v' = v'} h k = record { diff = cong_trans (cong_of_eq (omega arith)) (cong_add h.diff k.diff) }

mul_step : {m a u v b u' v' : ℕ} → Diff m a u v → Diff m b u' v' → Diff m (a * b) (u * u' + v * v') (u * v' + v * u')
mul_step {m} {a} {u} {v} {b} {u'} {v'} h k = record {
  diff =
      cong_trans (cong_add (cong_refl (a * b)) (cong_add (cong_mul (cong_sym h.diff) (cong_refl v')) (cong_mul (cong_refl v) (cong_sym k.diff))))
      (cong_trans (cong_of_eq (omega arith)) (cong_add (cong_mul h.diff k.diff) (cong_refl (v * v'))));
}

neg_step : {m a u v : ℕ} → 0 < m → Diff m a u v → Diff m (neg m a) v u
neg_step {m} {a} {u} {v} p h = record {
  diff =
      cong_trans (cong_add (cong_refl (neg m a)) (cong_sym h.diff))
      (cong_trans (cong_of_eq (omega arith)) (cong_trans (cong_add (neg_law p a) (cong_refl v)) (cong_of_eq (omega arith))));
}

retype : {m a u v u' v' : ℕ} → u' ≡ u → v' ≡ v → Diff m a u v → Diff m a u' v'
retype {a = a} p q h = record { diff = cong_trans (cong_add (cong_refl a) (cong_of_eq q)) (cong_trans h.diff (cong_of_eq (sym p))) }

-- another number for x
respell : {m a b u v : ℕ} → Cong m b a → Diff m a u v → Diff m b u v
respell {v = v} e h = record { diff = cong_trans (cong_add e (cong_refl v)) h.diff }

less_step : {m x u v : ℕ} → x ≤ m → Diff m x u v → Diff m (m - x) v u
less_step {m} {x} {u} {v} l h = record { diff = cong_trans (cong_add (cong_refl (m - x)) (cong_sym h.diff)) (cong_intro 0 1 (omega arith)) }

scale_step : {m x u v : ℕ} (c : ℕ) → Diff m x u v → Diff (c * m) (c * x) (c * u + 0 * v) (c * v + 0 * u)
scale_step {x = x} {u} {v} c h = record { diff = cong_trans (cong_of_eq (omega arith)) (cong_trans (cong_scale c h.diff) (cong_of_eq (omega arith))) }

-- the difference u − v as a number
diff_value : {m : ℕ} → 0 < m → (u v : ℕ) → Diff m (u + neg m v) u v
diff_value {m} p u v = record { diff = cong_trans (cong_of_eq (omega arith)) (cong_trans (cong_add (cong_refl u) (neg_law p v)) (cong_of_eq (add-zero u))) }

diff_same : {m x y u v : ℕ} → Diff m x u v → Diff m y u v → Cong m x y
diff_same {v = v} h k = cong_cancel v (cong_trans h.diff (cong_sym k.diff))

square_step : {d x u v e f : ℕ} → 0 < 2 * d → Diff d x u v → Diff (2 * d) d e f → Diff (2 * d) (x * (x + d)) (u * (u + e) + v * (v + f)) (u * (v + f) + v * (u + e))
square_step {d} {x} {u} {v} p h k =
    let y = diff_value p u v in
    respell (square_cong (diff_same h (record { diff = cong_weaken 2 y.diff }))) (mul_step y (add_step y k))

-- THE SOUNDNESS: a quoted number is its polynomial
sound : {ρ : List ℕ} {m : ℕ} → 0 < m → {x : ℕ} (e : Q ρ m x) → Diff m x (up (norm e) ρ) (dn (norm e) ρ)
sound {ρ} p (var i) = record { diff = cong_of_eq (omega (arith, up_pvar i ρ, dn_pvar i ρ)) }
sound p (con k) = record { diff = cong_of_eq (add-zero k) }
sound {ρ} p (a ⊕ b) = retype (up_padd (norm a) (norm b) ρ) (dn_padd (norm a) (norm b) ρ) (add_step (sound p a) (sound p b))
sound {ρ} p (a ⊗ b) = let j = pmul_law (norm a) (norm b) ρ in retype j.hi j.lo (mul_step (sound p a) (sound p b))
sound {ρ} p (minus a) = retype (up_pneg (norm a) ρ) (dn_pneg (norm a) ρ) (neg_step p (sound p a))
sound {ρ} p (less h a) = retype (up_pneg (norm a) ρ) (dn_pneg (norm a) ρ) (less_step h (sound p a))
sound p (rem {x = x} a) = respell (cong_mod x) (sound p a)
sound p (rem_of {x = x} c a) = respell (cong_weaken c (cong_mod x)) (sound p a)
sound {ρ} p (scale {m = m} c a) = let j = pscale_law c 0 (norm a) ρ in retype j.hi j.lo (scale_step c (sound (factor_pos c m p refl).1 a))
sound {ρ} p (square {d = d} a b) =
    let j = pmul_law (norm a) (padd (norm a) (norm b)) ρ in
    let h = up_padd (norm a) (norm b) ρ in
    let l = dn_padd (norm a) (norm b) ρ in
    retype
    (j.hi ∙ ap₂ (λ (y z : ℕ). up (norm a) ρ * y + dn (norm a) ρ * z) h l)
    (j.lo ∙ ap₂ (λ (y z : ℕ). up (norm a) ρ * y + dn (norm a) ρ * z) l h)
    (square_step p (sound (factor_pos 2 d p refl).1 a) (sound p b))

-- ---- the test. Every coefficient p − q is 0 modulo c; at c = 0, is 0.
abbrev pub null : ℕ → Poly → Bool
null c (lit p q) = eqb (p % c) (q % c)
null c (node a b) = null c a && null c b

-- modulo c times the first variable: what has the first variable in it is 0 modulo c, and the rest is 0
abbrev pub test : ℕ → Poly → Bool
test c (lit p q) = eqb (p % 0) (q % 0)
test c (node a b) = null 0 a && null c b

null_law : (c : ℕ) (t : Poly) (ρ : List ℕ) → T (null c t) → Cong c (up t ρ) (dn t ρ)
null_law c (lit p q) ρ h = record { same = eqb→eq (p % c) (q % c) h }
null_law c (node a b) [] h = null_law c a [] (and_l (null c a) (null c b) h)
null_law c (node a b) (x ∷ ρ) h = cong_add (null_law c a ρ (and_l (null c a) (null c b) h)) (cong_mul (cong_refl x) (null_law c b (x ∷ ρ) (and_r (null c a) (null c b) h)))

null0_law : (t : Poly) (ρ : List ℕ) → T (null 0 t) → up t ρ ≡ dn t ρ
null0_law t ρ h = sym (mod-zero (up t ρ)) ∙ (null_law 0 t ρ h).same ∙ mod-zero (dn t ρ)

test_law : (c d : ℕ) (t : Poly) (ρ : List ℕ) → T (test c t) → Cong (c * d) (up t (d ∷ ρ)) (dn t (d ∷ ρ))
test_law c d (lit p q) ρ h = cong_of_eq (null0_law (lit p q) ρ h)
test_law c d (node a b) ρ h =
    let w = cong_elim (null_law c b (d ∷ ρ) (and_r (null 0 a) (null c b) h)) in
    cong_intro w.k w.l (omega (arith, null0_law a ρ (and_l (null 0 a) (null c b) h), ap (λ (x : ℕ). d * x) w.eq))

-- ---- THE SOLVER. A combination of known congruences is a number that is 0 modulo m, with its quotation.
pub record Combo (ρ : List ℕ) (m : ℕ) : Type 0 where
  pub value : ℕ
  pub quoted : Q ρ m value
  pub vanishes : 0 < m → Cong m value 0

-- x − y ≡ 0 and x ≡ y
to_zero : {m x y : ℕ} → 0 < m → Cong m x y → Cong m (x + neg m y) 0
to_zero {m} {x} {y} p h = cong_trans (cong_add h (cong_refl (neg m y))) (neg_law p y)

from_zero : {m x y : ℕ} → 0 < m → Cong m (x + neg m y) 0 → Cong m x y
from_zero {m} {x} {y} p h =
    cong_trans (cong_of_eq (sym (add-zero x)))
    (cong_trans (cong_add (cong_refl x) (cong_sym (neg_law p y)))
    (cong_trans (cong_of_eq (omega arith)) (cong_trans (cong_add h (cong_refl y)) (cong_of_eq (zero-add y)))))

-- the polynomial of LEFT − RIGHT − (the combination)
abbrev pub gap : {ρ : List ℕ} {m x y z : ℕ} → Q ρ m z → Q ρ m x → Q ρ m y → Poly
gap h a b = norm ((a ⊕ minus b) ⊕ minus h)

solve : {ρ : List ℕ} {m : ℕ} → 0 < m → (h : Combo ρ m) {x y : ℕ} (a : Q ρ m x) (b : Q ρ m y) → Cong m (up (gap h.quoted a b) ρ) (dn (gap h.quoted a b) ρ) → Cong m x y
solve {ρ} p h a b z =
    let s = sound p ((a ⊕ minus b) ⊕ minus h.quoted) in
    let n : ℕ = dn (gap h.quoted a b) ρ in
    from_zero p (cong_trans (from_zero p (cong_cancel n (cong_trans s.diff (cong_trans z (cong_of_eq (sym (zero-add n))))))) (h.vanishes p))

-- combinations: none, a known congruence x ≡ y taken z times, and a sum of two
abbrev pub given_none : {m : ℕ} {ρ : List ℕ} → Combo ρ m
given_none = record { value = 0; quoted = con 0; vanishes = λ p. cong_refl 0 }

pub times_law : {m x y : ℕ} (z : ℕ) → Cong m x y → 0 < m → Cong m (z * (x + neg m y)) 0
times_law z h p = cong_trans (cong_mul (cong_refl z) (to_zero p h)) (cong_of_eq (mul-zero z))

pub also_law : {m x y : ℕ} → (0 < m → Cong m x 0) → (0 < m → Cong m y 0) → 0 < m → Cong m (x + y) 0
also_law h k p = cong_add (h p) (k p)

abbrev pub times : {m : ℕ} {ρ : List ℕ} {z x y : ℕ} → Q ρ m z → Q ρ m x → Q ρ m y → Cong m x y → Combo ρ m
times {m} {ρ} {z} {x} {y} c a b h = record { value = z * (x + neg m y); quoted = c ⊗ (a ⊕ minus b); vanishes = times_law z h }

infixl 5 ◌also◌
abbrev pub ◌also◌ : {m : ℕ} {ρ : List ℕ} → Combo ρ m → Combo ρ m → Combo ρ m
h also k = record { value = h.value + k.value; quoted = h.quoted ⊕ k.quoted; vanishes = also_law h.vanishes k.vanishes }

-- modulo d: the atoms are d, then ρ
pub ring₁_by : (d : ℕ) (ρ : List ℕ) → 0 < d → (h : Combo (d ∷ ρ) d) {x y : ℕ} (a : Q (d ∷ ρ) d x) (b : Q (d ∷ ρ) d y) → T (test 1 (gap h.quoted a b)) → Cong d x y
ring₁_by d ρ p h a b t =
    let n : Poly = gap h.quoted a b in
    solve p h a b (subst (λ (k : ℕ). Cong k (up n (d ∷ ρ)) (dn n (d ∷ ρ))) (one-mul d) (test_law 1 d n ρ t))

-- modulo 2·d
pub ring₂_by : (d : ℕ) (ρ : List ℕ) → 0 < d → (h : Combo (d ∷ ρ) (2 * d)) {x y : ℕ} (a : Q (d ∷ ρ) (2 * d) x) (b : Q (d ∷ ρ) (2 * d) y) → T (test 2 (gap h.quoted a b)) → Cong (2 * d) x y
ring₂_by d ρ p h a b t = solve (omega arith) h a b (test_law 2 d (gap h.quoted a b) ρ t)

-- modulo a numeral m: the atoms are ρ
pub ringₙ_by : (m : ℕ) (ρ : List ℕ) → 0 < m → (h : Combo ρ m) {x y : ℕ} (a : Q ρ m x) (b : Q ρ m y) → T (null m (gap h.quoted a b)) → Cong m x y
ringₙ_by m ρ p h a b t = solve p h a b (null_law m (gap h.quoted a b) ρ t)

-- the same with nothing given
pub ring₁ : (d : ℕ) (ρ : List ℕ) → 0 < d → {x y : ℕ} (a : Q (d ∷ ρ) d x) (b : Q (d ∷ ρ) d y) → T (test 1 (gap (con 0) a b)) → Cong d x y
ring₁ d ρ p a b t = ring₁_by d ρ p given_none a b t

pub ring₂ : (d : ℕ) (ρ : List ℕ) → 0 < d → {x y : ℕ} (a : Q (d ∷ ρ) (2 * d) x) (b : Q (d ∷ ρ) (2 * d) y) → T (test 2 (gap (con 0) a b)) → Cong (2 * d) x y
ring₂ d ρ p a b t = ring₂_by d ρ p given_none a b t

pub ringₙ : (m : ℕ) (ρ : List ℕ) → 0 < m → {x y : ℕ} (a : Q ρ m x) (b : Q ρ m y) → T (null m (gap (con 0) a b)) → Cong m x y
ringₙ m ρ p a b t = ringₙ_by m ρ p given_none a b t

-- ---- quoting by `search`: `search quote` at a goal `Q ρ m x` finds the quotation of x. One rule for each place among the atoms, and for each small numeral.
abbrev pub at0 : {m x0 : ℕ} {ρ : List ℕ} → Q (x0 ∷ ρ) m x0
at0 = var 0

abbrev pub at1 : {m x0 x1 : ℕ} {ρ : List ℕ} → Q (x0 ∷ x1 ∷ ρ) m x1
at1 = var 1

abbrev pub at2 : {m x0 x1 x2 : ℕ} {ρ : List ℕ} → Q (x0 ∷ x1 ∷ x2 ∷ ρ) m x2
at2 = var 2

abbrev pub at3 : {m x0 x1 x2 x3 : ℕ} {ρ : List ℕ} → Q (x0 ∷ x1 ∷ x2 ∷ x3 ∷ ρ) m x3
at3 = var 3

abbrev pub at4 : {m x0 x1 x2 x3 x4 : ℕ} {ρ : List ℕ} → Q (x0 ∷ x1 ∷ x2 ∷ x3 ∷ x4 ∷ ρ) m x4
at4 = var 4

abbrev pub at5 : {m x0 x1 x2 x3 x4 x5 : ℕ} {ρ : List ℕ} → Q (x0 ∷ x1 ∷ x2 ∷ x3 ∷ x4 ∷ x5 ∷ ρ) m x5
at5 = var 5

abbrev pub at6 : {m x0 x1 x2 x3 x4 x5 x6 : ℕ} {ρ : List ℕ} → Q (x0 ∷ x1 ∷ x2 ∷ x3 ∷ x4 ∷ x5 ∷ x6 ∷ ρ) m x6
at6 = var 6

abbrev pub at7 : {m x0 x1 x2 x3 x4 x5 x6 x7 : ℕ} {ρ : List ℕ} → Q (x0 ∷ x1 ∷ x2 ∷ x3 ∷ x4 ∷ x5 ∷ x6 ∷ x7 ∷ ρ) m x7
at7 = var 7

abbrev pub at8 : {m x0 x1 x2 x3 x4 x5 x6 x7 x8 : ℕ} {ρ : List ℕ} → Q (x0 ∷ x1 ∷ x2 ∷ x3 ∷ x4 ∷ x5 ∷ x6 ∷ x7 ∷ x8 ∷ ρ) m x8
at8 = var 8

abbrev pub at9 : {m x0 x1 x2 x3 x4 x5 x6 x7 x8 x9 : ℕ} {ρ : List ℕ} → Q (x0 ∷ x1 ∷ x2 ∷ x3 ∷ x4 ∷ x5 ∷ x6 ∷ x7 ∷ x8 ∷ x9 ∷ ρ) m x9
at9 = var 9

abbrev pub at10 : {m x0 x1 x2 x3 x4 x5 x6 x7 x8 x9 x10 : ℕ} {ρ : List ℕ} → Q (x0 ∷ x1 ∷ x2 ∷ x3 ∷ x4 ∷ x5 ∷ x6 ∷ x7 ∷ x8 ∷ x9 ∷ x10 ∷ ρ) m x10
at10 = var 10

abbrev pub at11 : {m x0 x1 x2 x3 x4 x5 x6 x7 x8 x9 x10 x11 : ℕ} {ρ : List ℕ} → Q (x0 ∷ x1 ∷ x2 ∷ x3 ∷ x4 ∷ x5 ∷ x6 ∷ x7 ∷ x8 ∷ x9 ∷ x10 ∷ x11 ∷ ρ) m x11
at11 = var 11

abbrev pub at12 : {m x0 x1 x2 x3 x4 x5 x6 x7 x8 x9 x10 x11 x12 : ℕ} {ρ : List ℕ} → Q (x0 ∷ x1 ∷ x2 ∷ x3 ∷ x4 ∷ x5 ∷ x6 ∷ x7 ∷ x8 ∷ x9 ∷ x10 ∷ x11 ∷ x12 ∷ ρ) m x12
at12 = var 12

abbrev pub num0 : {m : ℕ} {ρ : List ℕ} → Q ρ m 0
num0 = con 0

abbrev pub num1 : {m : ℕ} {ρ : List ℕ} → Q ρ m 1
num1 = con 1

abbrev pub num2 : {m : ℕ} {ρ : List ℕ} → Q ρ m 2
num2 = con 2

abbrev pub num3 : {m : ℕ} {ρ : List ℕ} → Q ρ m 3
num3 = con 3

abbrev pub num4 : {m : ℕ} {ρ : List ℕ} → Q ρ m 4
num4 = con 4

-- twice a number that is known modulo d
abbrev pub twice : {ρ : List ℕ} {d x : ℕ} → Q ρ d x → Q ρ (2 * d) (2 * x)
twice a = scale 2 a

-- modulo d, a remainder modulo 2·d
abbrev pub rem₂ : {ρ : List ℕ} {d x : ℕ} → Q ρ d x → Q ρ d (x % (2 * d))
rem₂ a = rem_of 2 a

pub ruleset quote = (at0, at1, at2, at3, at4, at5, at6, at7, at8, at9, at10, at11, at12, num0, num1, num2, num3, num4, ◌⊕◌, ◌⊗◌, minus, rem, rem₂, less, twice, square)
