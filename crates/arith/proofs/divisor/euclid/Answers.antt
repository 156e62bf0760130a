-- `arith::divisor::euclid` meets its contract: a turn keeps the invariant; where x is 0, y is the common divisor.
use Rattle.std.proofs.Common.{◌≡◌, [], ◌∷◌, ℕ, ◌+◌, ◌*◌, ◌/◌, ◌%◌, ◌<◌, sym, ◌∙◌, ap, arith}
use native.Mathlib.Nat.{mod-lt, mod-add-div', mul_comm}
use Rattle.arith.specs.Residues.{neg}
use Rattle.arith.specs.Gcd.{gcd}
use Rattle.arith.proofs.Cong.{Cong, cong_of_eq, cong_trans}
use Rattle.arith.proofs.Ring.{ring₁_by, times, ◌also◌, quote}
use Rattle.arith.proofs.Gcd.{gcd_next, gcd_zero_left}
use Rattle.arith.proofs.divisor.euclid.Invariants.{Turn}
use Rattle.arith.proofs.divisor.euclid.Goals as goal

-- a·t − z·a·s is y − z·x, the remainder r
remainder_law : (d a s t x y z r : ℕ) → 0 < d → r + z * x ≡ y → Cong d (a * s) x → Cong d (a * t) y → Cong d (a * ((t + neg d ((z % d) * s % d)) % d)) r
remainder_law d a s t x y z r p e h k = ring₁_by d (a ∷ s ∷ t ∷ x ∷ y ∷ z ∷ r ∷ []) p
    (times {z = neg d z} (search quote) (search quote) (search quote) h also times {z = 1} (search quote) (search quote) (search quote) k
    also times {z = neg d 1} (search quote) (search quote depth 30) (search quote) (cong_of_eq e))
    (search quote depth 30) (search quote depth 30) tt

turn_next : {d a s t u : ℕ} (x y : ℕ) → 0 < d → 0 < x → Turn d a x y s t → u ≡ (t + neg d (((y / x) % d) * s % d)) % d → Turn d a (y % x) x u s
turn_next {d} {a} {s} {t} x y p px h e = record {
  divisor = sym (gcd_next x y px) ∙ h.divisor;
  of_x = rw e (remainder_law d a s t x y (y / x) (y % x) p (mod-add-div' y x) h.of_x h.of_y);
  of_y = h.of_x;
  s_below = rw e (mod-lt (t + neg d (((y / x) % d) * s % d)) p);
  t_below = h.s_below;
}

turn_done : (d a x y s t : ℕ) → x ≡ 0 → Turn d a x y s t → (y ≡ gcd a d) × (t < d) × (t * a % d ≡ gcd a d % d)
turn_done d a x y s t e h =
    let all : y ≡ gcd a d = sym (gcd_zero_left y) ∙ ap (λ (z : ℕ). gcd z y) (sym e) ∙ h.divisor in
    (all, h.t_below, (cong_trans (cong_of_eq (mul_comm t a)) (cong_trans h.of_y (cong_of_eq all))).same)

pub loop-x-preserved : goal.loop-x-preserved
loop-x-preserved c =
    let l = c.loop-x in let d = c.args.d in
    turn_next l.x l.y (omega arith) (omega arith) l.invariant
    (c.minus-u.ensures.value ∙ ap (λ (x : ℕ). (l.t.0 + neg d x) % d) (c.times.ensures ∙ ap (λ (x : ℕ). x * l.s.0 % d) c.near-quotient.ensures.value))

pub returns : goal.returns
returns c = let l = c.loop-x in turn_done c.args.d c.args.a.0 l.x l.y l.s.0 l.t.0 (omega arith) l.invariant
