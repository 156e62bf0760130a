-- Sums that are not reduced before all columns are multiplied: what they stand for with one power of a column more, for every d above 0 and every n, and how large they are.
use mathlib.Core.Path.{◌≡◌, refl, sym, ap, ◌∙◌}
use mathlib.Core.List.{List, [], ◌∷◌}
use Prim.Native.Nat.{ℕ, ◌+◌, ◌*◌, ◌-◌, ◌%◌, ◌≤◌, ◌<◌}
use native.Mathlib.Nat.{one-mul, zero-mod, mul-le-mul}
use native.Mathlib.Omega.{arith}
use lib.ListN.{length, get_or, set, replicate}
use lib.Seq.{get_or-set_same, get_or-set_other}
use Rattle.arith.specs.Bytes.{tab}
use Rattle.arith.proofs.Bytes.{tab_ext, tab_at}
use Rattle.arith.specs.declared.residue.Residue.{Residue}
use Rattle.arith.proofs.Cases.{by_eq}
use Rattle.arith.proofs.Cong.{Cong, cong_trans, cong_scale}
use Rattle.arith.proofs.Ring.{ring₁, ring₂_by, times, quote}
use Rattle.pauli.specs.Pauli.{InRange, dot, plus, product, phase_only, power}
use Rattle.pauli.specs.Inner.View.{at}
use Rattle.pauli.proofs.Sums.{scaled}
use Rattle.pauli.proofs.Dots.{dot_comm, dot_scaled}
use Rattle.pauli.proofs.Entries.{tab_zero, plus_tab, scaled_tab}
use Rattle.pauli.proofs.Group.{power_closed}
use Rattle.pauli.proofs.Lists.{get_d_zeros, set_next}
use Rattle.pauli.proofs.Ranges.{pauli_path, v_less, w_less}
use Rattle.tableau.specs.Inner.View.{column_view}
use Rattle.tableau.specs.declared.column.Column.{Column}
use Rattle.tableau.specs.declared.sums.Product.{Product}
use Rattle.tableau.specs.Inner.Sums.{product_view, Small, Summed, Grown, Added}

-- ---- one power more
added_entry : (d s k x : ℕ) → 0 < d → Cong d (s % d + k * x % d) (s + k * x)
added_entry d s k x pos = ring₁ d (s ∷ k ∷ x ∷ []) pos (search quote depth 30) (search quote depth 30) tt

-- the entries: the sums g are the sums f and k times x
added_entries : (d n k : ℕ) (f g x : ℕ → ℕ) → 0 < d → ((i : ℕ) → i < n → g i ≡ f i + k * x i) → tab (λ i. g i % d) n ≡ plus d (tab (λ i. f i % d) n) (scaled d k (tab x n))
added_entries d n k f g x pos h =
    tab_ext _ _ n (λ i l. ap (λ (y : ℕ). y % d) (h i l) ∙ sym (added_entry d (f i) k (x i) pos).same)
    ∙ sym (ap (plus d (tab (λ i. f i % d) n)) (scaled_tab d k x n) ∙ plus_tab d (λ i. f i % d) (λ i. k * x i % d) n)

-- the phase: w·v may be taken before w is reduced
reduced_once : (d n : ℕ) (f : ℕ → ℕ) → tab (λ i. f i % d) n ≡ scaled d 1 (tab f n)
reduced_once d n f = tab_ext _ _ n (λ i l. ap (λ (y : ℕ). y % d) (sym (one-mul (f i)))) ∙ sym (scaled_tab d 1 f n)

reduced_dot : (d n k : ℕ) (f : ℕ → ℕ) (xs : List ℕ) → 0 < d → Cong d (dot (tab (λ i. f i % d) n) (scaled d k xs)) (k * dot (tab f n) xs)
reduced_dot d n k f xs pos = cong_trans {b = dot (tab f n) (scaled d k xs)}
    (rw (reduced_once d n f) (rw (one-mul (dot (tab f n) (scaled d k xs))) at (dot_scaled d 1 pos (tab f n) (scaled d k xs))))
    (rw (dot_comm (tab f n) (scaled d k xs), dot_comm (tab f n) xs) (dot_scaled d k pos xs (tab f n)))

added_phase : (d h k m e o t y : ℕ) → 0 < d → Cong d y (k * t) → Cong (2 * d) (h + (k * e + k * m * o) % (2 * d) + 2 * y) (h + k * (e + m * o + 2 * t))
added_phase d h k m e o t y pos c = ring₂_by d (h ∷ k ∷ m ∷ e ∷ o ∷ t ∷ y ∷ []) pos
    (times {z = 1} (search quote) (search quote) (search quote) (cong_scale 2 c)) (search quote depth 30) (search quote depth 30) tt

-- the product p was there, the product q is: the column c to the power k is multiplied
pub power_more : (d n k : ℕ) (c : Column) (p q : Product) → 0 < d → InRange d n (column_view n c)
    → ((i : ℕ) → i < n → get_or q.v i 0 ≡ get_or p.v i 0 + k * at c.v i)
    → ((i : ℕ) → i < n → get_or q.w i 0 ≡ get_or p.w i 0 + k * at c.w i)
    → q.phase.0 ≡ (p.phase.0 + k * (c.phase.0 + (k - 1) * dot (column_view n c).w (column_view n c).v + 2 * dot (tab (λ i. get_or p.w i 0) n) (column_view n c).v)) % (2 * d)
    → product_view d n q ≡ product d (product_view d n p) (power d n (column_view n c) k)
unfolding column_view product_view
power_more d n k c p q pos range v w e =
    pauli_path
    (e ∙ sym (added_phase d p.phase.0 k (k - 1) c.phase.0 _ _ _ pos (reduced_dot d n k (λ i. get_or p.w i 0) (column_view n c).v pos)).same)
    (added_entries d n k (λ i. get_or p.v i 0) (λ i. get_or q.v i 0) (at c.v) pos v)
    (added_entries d n k (λ i. get_or p.w i 0) (λ i. get_or q.w i 0) (at c.w) pos w)
    ∙ ap (product d (product_view d n p)) (sym (power_closed d n k pos range))

-- a power 0 changes no sum
pub power_none : (d n k : ℕ) (c : Column) (p q : Product) → 0 < d → InRange d n (column_view n c) → k ≡ 0 → q.v ≡ p.v → q.w ≡ p.w → q.phase.0 ≡ (p.phase.0 + 0) % (2 * d) → product_view d n q ≡ product d (product_view d n p) (power d n (column_view n c) k)
power_none d n k c p q pos range z v w e =
    rw z (power_more d n 0 c p q pos range (λ i l. rw v (omega arith)) (λ i l. rw w (omega arith)) (e ∙ ap (λ (x : ℕ). x % (2 * d)) (omega arith)))

-- before the first
pub none_summed : (d n : ℕ) (p : Product) → p.v ≡ replicate 16 0 → p.w ≡ replicate 16 0 → product_view d n p ≡ phase_only n p.phase.0
unfolding product_view
none_summed d n p v w = pauli_path refl (zeros p.v v) (zeros p.w w)
  where
    zeros : (xs : List ℕ) → xs ≡ replicate 16 0 → tab (λ i. get_or xs i 0 % d) n ≡ replicate n 0
    zeros xs e = tab_zero _ n (λ i. ap (λ (x : ℕ). x % d) (ap (λ (ys : List ℕ). get_or ys i 0) e ∙ get_d_zeros 16 i) ∙ zero-mod d)

-- ---- how large
-- k·x for an entry x of a column, and s·x for a sum s
pub multiple_small : (k x : ℕ) → k < 65536 → x ≤ 1023 → k * x ≤ 67042305
multiple_small k x h l = let g : k ≤ 65535 = omega arith in mul-le-mul g l

pub sum_multiple_small : (s x : ℕ) → s < 4294967296 → x ≤ 1023 → s * x ≤ 4393751542785
sum_multiple_small s x h l = let g : s ≤ 4294967295 = omega arith in mul-le-mul g l

pub column_small : {d n : ℕ} (c : Column) → d ≤ 1024 → InRange d n (column_view n c) → Small n c
unfolding column_view
column_small {d} {n} c top r i l = (omega (arith, v_less r i, tab_at (at c.v) n i 0 l), omega (arith, w_less r i, tab_at (at c.w) n i 0 l))

pub zeros_summed : (p : Product) → p.v ≡ replicate 16 0 → p.w ≡ replicate 16 0 → Summed 0 p
zeros_summed p v w = record { v = λ i. rw v (omega (arith, get_d_zeros 16 i)); w = λ i. rw w (omega (arith, get_d_zeros 16 i)) }

pub summed_within : {m k : ℕ} {p : Product} → m ≤ k → Summed m p → Summed k p
summed_within l b = record { v = λ i. omega (arith, b.v i); w = λ i. omega (arith, b.w i) }

pub summed_more : {m k n : ℕ} {c : Column} {p q : Product} → Added k n c p q → Summed m p → Summed (m + 1) q
summed_more a b = record { v = λ i. omega (arith, a.v.bounded i, b.v i); w = λ i. omega (arith, a.w.bounded i, b.w i) }

-- ---- a loop that adds f 0, f 1, .. to the sums: those before place i are added, the others are as they were
pub record Growing (f : ℕ → ℕ) (i : ℕ) (old new : List ℕ) : Type 0 where
  pub grown : Grown f i old new
  pub left : (j : ℕ) → i ≤ j → get_or new j 0 ≡ get_or old j 0

pub growing_none : (f : ℕ → ℕ) (s : List ℕ) → Growing f 0 s s
growing_none f s = record { grown = record { added = λ j l. absurd (omega arith); bounded = λ j. omega arith }; left = λ j l. refl }

-- so before the first entry the sums are as they were
pub adding_none : (k : ℕ) (c : Column) (p : Product) → Added k 0 c p p
adding_none k c p = record { phase = refl; v = (growing_none (λ i. k * at c.v i) p.v).grown; w = (growing_none (λ i. k * at c.w i) p.w).grown }

pub growing_more : {f : ℕ → ℕ} {old new : List ℕ} (i : ℕ) {a : ℕ} → i < length new → a ≡ f i → a ≤ 67042305 → Growing f i old new → Growing f (i + 1) old (set new i (get_or new i 0 + a))
growing_more {f} {old} {new} i {a} h e l g =
    let x = get_or new i 0 + a in
    let sum : x ≡ get_or old i 0 + f i = omega (arith, g.left i (omega arith)) in
    record {
      grown = record {
        added = set_next (λ j. get_or old j 0 + f j) (λ j. j) new i x (λ j m (q : j ≡ i). omega arith) h sum g.grown.added;
        bounded = λ j. by_eq j i (λ q. rw (q, get_or-set_same new i x 0 h) (omega (arith, g.left i (omega arith)))) (λ ne. rw (get_or-set_other new i j x 0 ne) (g.grown.bounded j));
      };
      left = λ j m. get_or-set_other new i j x 0 (λ (q : j ≡ i). omega arith) ∙ g.left j (omega arith);
    }

-- k times entry i of a column
pub adding_more : (k : ℕ) (xs : List Residue) {old new : List ℕ} (i : ℕ) {x : ℕ} → i < length new → k < 65536 → at xs i ≤ 1023 → x ≡ at xs i → Growing (λ j. k * at xs j) i old new → Growing (λ j. k * at xs j) (i + 1) old (set new i (get_or new i 0 + k * x))
adding_more k xs i h b l e g = growing_more i h (ap (λ (y : ℕ). k * y) e) (rw e (multiple_small k (at xs i) b l)) g
