-- Straighten changes columns at its qudit alone, and makes w of its column 0 there.
use mathlib.Core.Path.{◌≡◌, sym, ◌∙◌, ap, subst}
use mathlib.Core.Bool.{Bool, cond}
use mathlib.Core.List.{List}
use Prim.Native.Nat.{ℕ, ◌+◌, ◌*◌, ◌%◌, ◌<◌}
use native.Mathlib.Omega.{arith}
use Rattle.arith.proofs.Cases.{eqb_case, ltb_case}
use Rattle.arith.proofs.Divides.{Dvd, dvd_trans, dvd_as}
use Rattle.arith.specs.Residues.{neg}
use Rattle.arith.specs.Gcd.{gcd}
use Rattle.arith.proofs.Gcd.{gcd_left, gcd_right, gcd_greatest, gcd_mod}
use Rattle.arith.specs.Units.{least_multiplier, divides, quotient}
use Rattle.arith.proofs.Units.{least_gcd}
use Rattle.arith.proofs.Quotient.{quotient_times, dvd_minus, minus_dvd, level_zero, rem_dvd}
use Rattle.pauli.specs.Pauli.{Pauli}
use Rattle.gates.specs.Row.{F}
use Rattle.synthesis.specs.Inner.Reduce.{State, put, put_s, minus, gather_w, exchange, clear_w, straighten}
use Rattle.synthesis.proofs.Reached.{Reached}
use Rattle.synthesis.proofs.Entries.{Local, v_of, w_of, local_s, local_f, local_f3}
use Rattle.synthesis.proofs.Steps.{Effect, col, put_s_lem, put_f, put_f3, locally, local_effects}

-- ---- gathered: x is a + m·b with gcd(x, d) the gcd of all three
pub record Gathered (d a b x : ℕ) : Type 0 where
  pub first : Dvd (gcd x d) a
  pub second : Dvd (gcd x d) b

pub gathered_from : (d a b m x : ℕ) → gcd (a + m * b) d ≡ gcd (gcd a b) d → x ≡ (a + m * b) % d → Gathered d a b x
gathered_from d a b m x e f = record {
  first = subst (λ (z : ℕ). Dvd z a) (sym same) (dvd_trans (gcd_left (gcd a b) d) (gcd_left a b));
  second = subst (λ (z : ℕ). Dvd z b) (sym same) (dvd_trans (gcd_left (gcd a b) d) (gcd_right a b));
}
  where
    same : gcd x d ≡ gcd (gcd a b) d
    same = gcd_mod d (a + m * b) f ∙ e

-- once exchanged: gcd(−x, d) divides b, and gcd(x, d) divides −b
exchanged_dvd : (d a b x : ℕ) → 0 < d → Gathered d a b x → Dvd (gcd (neg d x % d) d) b
exchanged_dvd d a b x p h =
    let g = gcd (neg d x % d) d in
    let gd = gcd_right (neg d x % d) d in
    dvd_trans (gcd_greatest (minus_dvd d x g p gd (gcd_left (neg d x % d) d)) gd) h.second

exchanged_back_dvd : (d a b x : ℕ) → 0 < d → Gathered d a b x → Dvd (gcd x d) (neg d b % d)
exchanged_back_dvd d a b x p h = dvd_minus d b (gcd x d) p (gcd_right x d) h.second

-- ---- straighten
pub record Straightens (d n : ℕ) (t₀ : List Pauli) (c j : ℕ) (s s' : State) : Type 0 where
  pub effect : Effect d n t₀ (Local j) s s'
  pub w_none : w_of (col n s' c) j ≡ 0

record Divisible (d n : ℕ) (t₀ : List Pauli) (c j : ℕ) (s s' : State) : Type 0 where
  effect : Effect d n t₀ (Local j) s s'
  divided : Dvd (gcd (v_of (col n s' c) j) d) (w_of (col n s' c) j)

-- S on j, as a change at j
local_shear : {d n : ℕ} {t₀ : List Pauli} {s : State} → Reached d n t₀ s → (j k : ℕ) → j < n → Effect d n t₀ (Local j) s (put_s d j k s)
local_shear h j k l = locally h (put_s_lem h j k l) (λ p q r a. local_s r a)

both : (d : ℕ) {v v' w w' : ℕ} → v' ≡ v → w' ≡ w → Dvd (gcd v d) w → Dvd (gcd v' d) w'
both d {v} {v'} {w} {w'} e f g = subst (λ (y : ℕ). Dvd (gcd y d) w') (sym e) (dvd_as (sym f) g)

module _ {d n : ℕ} {t₀ : List Pauli} (c j : ℕ) (jn : j < n) {s : State} (h : Reached d n t₀ s) where
  clear_law : Dvd (gcd (v_of (col n s c) j) d) (w_of (col n s c) j) → Straightens d n t₀ c j s (clear_w d n c j s)
  clear_law e =
      let p = col n s c in
      let pos : 0 < d = omega (arith, h.large) in
      let k = quotient d (v_of p j) (minus d (w_of p j)) in
      record {
        effect = local_shear h j k jn;
        w_none = ((put_s_lem h j k jn).after c).w_becomes ∙ level_zero d (w_of p j) k (v_of p j) pos
            (quotient_times d (v_of p j) (minus d (w_of p j)) pos (dvd_minus d (w_of p j) (gcd (v_of p j) d) pos (gcd_right (v_of p j) d) e));
      }

  -- w is gathered from a and b, and v is b: F makes w or −w the new v, and −b or b the new w
  exchange_law : (a b : ℕ) → v_of (col n s c) j ≡ b → Gathered d a b (w_of (col n s c) j) → Divisible d n t₀ c j s (exchange d n c j s)
  exchange_law a b e g =
      let pos : 0 < d = omega (arith, h.large) in
      let w = w_of (col n s c) j in
      let f1 = put_f h j jn in
      let f3 = put_f3 h j jn in
      ltb_case (λ (b : Bool). Divisible d n t₀ c j s (put d (F j (cond b 1 3)) s)) d (2 * w)
      (λ l. record { effect = locally h f1 (λ p q r z. local_f r z); divided = both d (f1.after c).v_becomes ((f1.after c).w_becomes ∙ e) (exchanged_dvd d a b w pos g) })
      (λ l. record { effect = locally h f3 (λ p q r z. local_f3 r z); divided = both d (f3.after c).v_becomes ((f3.after c).w_becomes ∙ ap (minus d) e) (exchanged_back_dvd d a b w pos g) })

module _ {d n : ℕ} {t₀ : List Pauli} (c j : ℕ) (jn : j < n) {s : State} (h : Reached d n t₀ s) where
  gather_law : Divisible d n t₀ c j s (exchange d n c j (gather_w d n c j s))
  gather_law =
      let p = col n s c in
      let pos : 0 < d = omega (arith, h.large) in
      let m = least_multiplier d (w_of p j) (v_of p j) in
      let s1 = put_s d j m s in
      let st = put_s_lem h j m jn in
      let a = st.after c in
      let f = exchange_law c j jn st.reached (w_of p j) (v_of p j) (a.v_kept j) (gathered_from d (w_of p j) (v_of p j) m (w_of (col n s1 c) j) (least_gcd d (w_of p j) (v_of p j) pos) a.w_becomes) in
      record { effect = local_effects (local_shear h j m jn) f.effect; divided = f.divided }

  pub straighten_law : Straightens d n t₀ c j s (straighten d n c j s)
  unfolding straighten divides
  straighten_law =
      let p = col n s c in
      eqb_case (λ (b : Bool). Straightens d n t₀ c j s (clear_w d n c j (cond b s (exchange d n c j (gather_w d n c j s))))) (w_of p j % gcd (v_of p j) d) 0
      (λ e. clear_law c j jn h (rem_dvd (gcd (v_of p j) d) (w_of p j) e))
      (λ ne. let a = gather_law in let b = clear_law c j jn a.effect.reached a.divided in record { effect = local_effects a.effect b.effect; w_none = b.w_none })
