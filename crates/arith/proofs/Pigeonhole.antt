-- A map of the numbers below N into themselves that is injective takes every value.
use mathlib.Core.Bool.{cond}
use mathlib.Core.Path.{◌≡◌, refl, sym, ◌∙◌, ap}
use mathlib.Core.Logic.{◌≢◌}
use Prim.Native.Nat.{ℕ, zero, suc, ◌+◌, ◌-◌, ◌≤◌, ◌<◌}
use native.Mathlib.Nat.{not-suc-le-zero}
use native.Mathlib.Omega.{arith}
use lib.Dec.{ltb}
use Rattle.arith.proofs.Cases.{ltb_case, by_eq}

-- the numbers without v, counted anew: what is above v comes down by one
unfoldable pub squeeze : ℕ → ℕ → ℕ
squeeze v x = cond (ltb v x) (x - 1) x

data Squeezed (v x s : ℕ) : Type 0 where
  high : v < x → s + 1 ≡ x → Squeezed v x s
  low : x ≤ v → s ≡ x → Squeezed v x s

squeezed : (v x : ℕ) → Squeezed v x (squeeze v x)
unfolding squeeze
squeezed v x = ltb_case (λ b. Squeezed v x (cond b (x - 1) x)) v x (λ h. high h (omega arith)) (λ h. low h refl)

squeezed_below : {v x s N : ℕ} → Squeezed v x s → x ≢ v → x < suc N → v < suc N → s < N
squeezed_below (high h e) ne l m = omega arith
squeezed_below (low h e) ne l m = omega arith

squeezed_apart : {v a b s r : ℕ} → Squeezed v a s → Squeezed v b r → a ≢ v → b ≢ v → s ≡ r → a ≡ b
squeezed_apart (high h e) (high h' e') na nb f = omega arith
squeezed_apart (high h e) (low h' e') na nb f = absurd (nb (omega arith))
squeezed_apart (low h e) (high h' e') na nb f = absurd (na (omega arith))
squeezed_apart (low h e) (low h' e') na nb f = omega arith

-- g is injective below m
pub record Apart (g : ℕ → ℕ) (m : ℕ) : Type 0 where
  pub apart : (x y : ℕ) → x < m → y < m → g x ≡ g y → x ≡ y

squeeze_apart : {g : ℕ → ℕ} {m : ℕ} (v : ℕ) → Apart g m → ((x : ℕ) → x < m → g x ≢ v) → Apart (λ x. squeeze v (g x)) m
squeeze_apart {g} v a ne = record { apart = λ x y l k e. a.apart x y l k (squeezed_apart (squeezed v (g x)) (squeezed v (g y)) (ne x l) (ne y k) e) }

no_room : (N : ℕ) (g : ℕ → ℕ) → ((x : ℕ) → x < suc N → g x < N) → Apart g (suc N) → ⊥
no_room zero g h a = not-suc-le-zero (h 0 (omega arith))
no_room (suc N) g h a = no_room N (λ x. squeeze (g (suc N)) (g x))
    (λ x l. squeezed_below (squeezed (g (suc N)) (g x)) (ne x l) (h x (omega arith)) (h (suc N) (omega arith)))
    (squeeze_apart (g (suc N)) (record { apart = λ x y l k e. a.apart x y (omega arith) (omega arith) e }) ne)
  where
    ne : (x : ℕ) → x < suc N → g x ≢ g (suc N)
    ne x l e = let f : x ≡ suc N = a.apart x (suc N) (omega arith) (omega arith) e in omega arith

pub record Hit (g : ℕ → ℕ) (m y : ℕ) : Type 0 where
  pub at : ℕ
  pub below : at < m
  pub hits : g at ≡ y

-- y is taken at one place below m, and at no other
pub record Once (g : ℕ → ℕ) (m y : ℕ) : Type 0 where
  pub hit : Hit g m y
  pub only : (x : ℕ) → x < m → g x ≡ y → x ≡ hit.at

data Look (g : ℕ → ℕ) (m y : ℕ) : Type 0 where
  found : Hit g m y → Look g m y
  missed : ((x : ℕ) → x < m → g x ≢ y) → Look g m y

look : (g : ℕ → ℕ) (m y : ℕ) → Look g m y
look g zero y = missed (λ x l e. not-suc-le-zero l)
look g (suc m) y = by_eq (g m) y (λ e. found (record { at = m; below = omega arith; hits = e })) (λ ne. go ne (look g m y))
  where
    last : g m ≢ y → ((x : ℕ) → x < m → g x ≢ y) → (x : ℕ) → x < suc m → g x ≢ y
    last ne h x l e = by_eq x m (λ s. ne (sym (ap g s) ∙ e)) (λ o. h x (omega arith) e)

    go : g m ≢ y → Look g m y → Look g (suc m) y
    go ne (found r) = found (record { at = r.at; below = omega arith; hits = r.hits })
    go ne (missed h) = missed (last ne h)

pub onto : (m : ℕ) (g : ℕ → ℕ) → ((x : ℕ) → x < m → g x < m) → Apart g m → (y : ℕ) → y < m → Hit g m y
onto zero g h a y l = absurd (not-suc-le-zero l)
onto (suc m) g h a y l = go (look g (suc m) y)
  where
    go : Look g (suc m) y → Hit g (suc m) y
    go (found r) = r
    go (missed ne) = absurd (no_room m (λ x. squeeze y (g x)) (λ x k. squeezed_below (squeezed y (g x)) (ne x k) (h x k) l) (squeeze_apart y a ne))

pub once : (m : ℕ) (g : ℕ → ℕ) → ((x : ℕ) → x < m → g x < m) → Apart g m → (y : ℕ) → y < m → Once g m y
once m g h a y l = let z = onto m g h a y l in record { hit = z; only = λ x k e. a.apart x z.at k z.below (e ∙ sym z.hits) }
