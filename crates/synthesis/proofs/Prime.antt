-- For a prime d straighten takes one row.
use mathlib.Core.Bool.{Bool, cond}
use mathlib.Core.Path.{◌≡◌, sym, ◌∙◌, ap, subst}
use mathlib.Core.List.{List}
use mathlib.Core.Logic.{◌≢◌, ◌⊎◌, inl, inr}
use Prim.Native.Nat.{ℕ, zero, suc, ◌*◌, ◌%◌, ◌<◌}
use native.Mathlib.Nat.{zero-mod, mod-one}
use native.Mathlib.Omega.{arith}
use Rattle.arith.proofs.Cases.{by_eq, eqb_case, ltb_case}
use Rattle.arith.proofs.Remainders.{neg_zero}
use Rattle.arith.specs.Gcd.{gcd}
use Rattle.arith.proofs.Gcd.{gcd_left, gcd_right}
use Rattle.arith.specs.Units.{least_multiplier, divides}
use Rattle.arith.proofs.Units.{least_zero}
use Rattle.pauli.specs.Pauli.{Pauli}
use Rattle.pauli.proofs.Ranges.{v_less}
use Rattle.gates.specs.Row.{Row, F, S}
use Rattle.synthesis.specs.Inner.Reduce.{State, put, near_power, v_at, w_at, gather_w, exchange, clear_w, straighten}
use Rattle.synthesis.specs.Measures.{Prime}
use Rattle.synthesis.proofs.Reached.{Reached}
use Rattle.synthesis.proofs.Steps.{col_range, put_f, put_f3}
use Rattle.synthesis.proofs.Count.{Weights, Adds, Costs, clear_adds, exchange_adds}
use Rattle.synthesis.proofs.Identity.{stays, clear_none}

-- every residue but 0 is a unit
prime_unit : {d : ℕ} → Prime d → (x : ℕ) → x ≢ 0 → x < d → gcd x d ≡ 1
prime_unit {d} p x ne l = go (p.only (gcd x d) (gcd_right x d).q (gcd_right x d).eq)
  where
    full : (d x g q r : ℕ) → d ≡ g * q → q ≡ 1 → x ≡ g * r → x ≢ 0 → x < d → ⊥
    full d x g q zero e f h ne l = ne (omega arith)
    full d x g q (suc r) e f h ne l = omega (arith, ap (λ (y : ℕ). g * y) f)

    go : (gcd x d ≡ 1) ⊎ ((gcd_right x d).q ≡ 1) → gcd x d ≡ 1
    go (inl e) = e
    go (inr e) = absurd (full d x (gcd x d) (gcd_right x d).q (gcd_left x d).q (gcd_right x d).eq e (gcd_left x d).eq ne l)

-- v is 0: F alone makes w 0
module _ {d n : ℕ} {t₀ : List Pauli} (c j : ℕ) (jn : j < n) {s : State} (r : Reached d n t₀ s) (v : v_at n s c j ≡ 0) where
  gather_none : gather_w d n c j s ≡ s
  gather_none =
      let k = least_multiplier d (w_at n s c j) (v_at n s c j) in
      let pos : 0 < d = omega (arith, r.large) in
      stays (k % d) 0 s (put d (S j (near_power d (k % d))) s) (ap (λ (x : ℕ). x % d) (least_zero d (w_at n s c j) (v_at n s c j) pos v) ∙ zero-mod d)

  exchange_none : w_at n (exchange d n c j s) c j ≡ 0
  exchange_none = ltb_case (λ (b : Bool). w_at n (put d (F j (cond b 1 3)) s) c j ≡ 0) d (2 * w_at n s c j)
      (λ l. ((put_f r j jn).after c).w_becomes ∙ v) (λ l. ((put_f3 r j jn).after c).w_becomes ∙ neg_zero d (v_at n s c j) (omega (arith, r.large)) v)

  alone : clear_w d n c j (exchange d n c j (gather_w d n c j s)) ≡ exchange d n c j s
  alone = ap (λ (x : State). clear_w d n c j (exchange d n c j x)) gather_none ∙ clear_none d n c j (exchange d n c j s) (omega (arith, r.large)) exchange_none

module _ {d : ℕ} (p : Prime d) {w : Row → ℕ} {a : ℕ → ℕ → ℕ} {o : ℕ} (h : Weights d w a o) where
  straighten_one : {n : ℕ} {t₀ : List Pauli} (c j : ℕ) (s : State) → j < n → Reached d n t₀ s → Adds w o s (straighten d n c j s)
  unfolding straighten divides
  straighten_one {n} c j s jn r =
      let v = v_at n s c j in
      eqb_case (λ (b : Bool). Adds w o s (clear_w d n c j (cond b s (exchange d n c j (gather_w d n c j s))))) (w_at n s c j % gcd v d) 0
      (λ e. clear_adds h n c j s)
      (λ ne. by_eq v 0
      (λ e. subst (λ (x : State). Adds w o s x) (sym (alone c j jn r e)) (exchange_adds h n c j s))
      (λ nv. absurd (ne (unit_rem (gcd v d) (w_at n s c j) (prime_unit p v nv (v_less (col_range r c) j))))))
    where
      unit_rem : (g x : ℕ) → g ≡ 1 → x % g ≡ 0
      unit_rem g x e = ap (λ (y : ℕ). x % y) e ∙ mod-one x

  pub prime_costs : {n : ℕ} {t₀ : List Pauli} → Costs d n t₀ w a o o
  prime_costs = record { weights = h; straight = λ c j s l r. straighten_one c j s l r }
