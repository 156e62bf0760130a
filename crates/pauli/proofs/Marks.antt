-- Laws of the support word: its bits, a qudit changed, the number of qudits touched, and that Paulis with no qudit in common commute. For every n. Assumes nothing.
use mathlib.Core.Path.{◌≡◌, refl, sym, ap, ap₂, ◌∙◌}
use mathlib.Core.Logic.{◌≢◌, ◌↔◌, ◌⊎◌, inl, inr, ⊎_elim}
use mathlib.Core.List.{List, [], ◌∷◌, ◌++◌}
use Prim.Native.Nat.{ℕ, zero, suc, ◌+◌, ◌*◌, ◌/◌, ◌%◌, ◌^◌, ◌<◌, min}
use native.Mathlib.Nat.{le_of_suc-le-suc, not-suc-le-zero, zero-add}
use native.Mathlib.Omega.{arith}
use lib.Bits.{bit_and, bit_or, and_step, and_le_l, and_le_r, or_add_and}
use lib.Count.{ones}
use lib.Dec.{eqb-suc-zero}
use lib.ListN.{length, get_or, set, replicate}
use Rattle.arith.specs.Bytes.{tab}
use Rattle.arith.specs.Residues.{neg}
use Rattle.arith.proofs.Cases.{by_eq}
use Rattle.arith.proofs.Remainders.{neg_zero}
use Rattle.arith.proofs.Bytes.{tab_list, tab_length, tab_at, tab_more}
use Rattle.pauli.specs.Pauli.{Pauli, Below, none, more, dot, comm, unit_x, unit_z}
use Rattle.pauli.specs.declared.Pauli.{Pauli as Code}
use Rattle.pauli.specs.Inner.View.{at, view}
use Rattle.pauli.specs.Inner.Words.{Joins, Changes}
use Rattle.pauli.specs.Support.{mark, marks, word_of, total, support_of, touched_of}
use Rattle.pauli.proofs.Lists.{cons_path, zeros_length, get_d_zeros, set_back}
use Rattle.pauli.proofs.Words.{lowest, higher, word_below, word_bit, word_ones, word_single}

-- ---- the mark of a qudit
pub mark_below : (x z : ℕ) → mark x z < 2
unfolding mark
mark_below zero zero = omega arith
mark_below zero (suc z) = rw (eqb-suc-zero z) (omega arith)
mark_below (suc x) z = rw (eqb-suc-zero x) (omega arith)

-- where it is 0, v and w are
pub unmarked : (x z : ℕ) → mark x z ≡ 0 → (x ≡ 0) × (z ≡ 0)
unfolding mark
unmarked zero zero e = (refl, refl)
unmarked zero (suc z) e = absurd (omega (arith, rw (eqb-suc-zero z) at e))
unmarked (suc x) z e = absurd (omega (arith, rw (eqb-suc-zero x) at e))

-- it is 1 exactly when v or w isn't 0
pub mark_exactly : (x z : ℕ) → (mark x z ≡ 1) ↔ ((x ≢ 0) ⊎ (z ≢ 0))
unfolding mark
mark_exactly zero zero = (λ e. absurd (omega (arith, e)), λ h. absurd (⊎_elim (λ a. a refl) (λ b. b refl) h))
mark_exactly zero (suc z) = (λ e. inr (λ k. omega arith), λ h. rw (eqb-suc-zero z) refl)
mark_exactly (suc x) z = (λ e. inl (λ k. omega arith), λ h. rw (eqb-suc-zero x) refl)

-- one test for both: their `or` is 0 exactly when both are
pub none_marked : (x z : ℕ) → bit_or x z ≡ 0 → 0 ≡ mark x z
unfolding mark
none_marked x z e =
    let h : x ≡ 0 = omega (arith, e, or_add_and x z, and_le_r x z) in
    let k : z ≡ 0 = omega (arith, e, or_add_and x z, and_le_l x z) in
    rw (h, k) refl

pub some_marked : (x z : ℕ) → bit_or x z ≢ 0 → 1 ≡ mark x z
some_marked x z ne = by_eq (mark x z) 0
    (λ e. let h = unmarked x z e in absurd (ne (rw (h.0, h.1) refl)))
    (λ m. omega (arith, mark_below x z))

-- ---- the marks of qudits
pub marks_tab : (f g : ℕ → ℕ) (n : ℕ) → marks (tab f n) (tab g n) ≡ tab (λ i. mark (f i) (g i)) n
unfolding tab
marks_tab f g zero = refl
marks_tab f g (suc n) = cons_path refl (marks_tab (λ i. f (suc i)) (λ i. g (suc i)) n)

pub marks_below : (vs ws : List ℕ) → Below 2 (marks vs ws)
marks_below [] ws = none
marks_below (x ∷ vs) [] = none
marks_below (x ∷ vs) (z ∷ ws) = more (mark_below x z) (marks_below vs ws)

-- the entries of qudit i changed
pub marks_set : (vs ws : List ℕ) (i x z : ℕ) → i < length vs → i < length ws → marks (set vs i x) (set ws i z) ≡ set (marks vs ws) i (mark x z)
marks_set [] ws i x z h k = absurd (not-suc-le-zero h)
marks_set (y ∷ vs) [] i x z h k = absurd (not-suc-le-zero k)
marks_set (y ∷ vs) (u ∷ ws) zero x z h k = refl
marks_set (y ∷ vs) (u ∷ ws) (suc i) x z h k = cons_path refl (marks_set vs ws i x z (le_of_suc-le-suc h) (le_of_suc-le-suc k))

-- a loop that makes the word of qudits: none yet, and one more
pub word_none : (f g : ℕ → ℕ) → word_of (marks (tab f 0) (tab g 0)) ≡ 0
unfolding tab
word_none f g = refl

pub word_next : {word r : ℕ} (f g : ℕ → ℕ) (i x z : ℕ) → x ≡ f i → z ≡ g i → word ≡ word_of (marks (tab f i) (tab g i)) → Joins word i x z r → r ≡ word_of (marks (tab f (i + 1)) (tab g (i + 1)))
word_next f g i x z e k w r =
    let ms : ℕ → ℕ = λ j. mark (f j) (g j) in
    r (marks (tab f i) (tab g i)) (marks_below (tab f i) (tab g i)) (ap length (marks_tab f g i) ∙ tab_length ms i) w
    ∙ ap word_of (ap₂ (λ (l : List ℕ) (m : ℕ). l ++ (m ∷ [])) (marks_tab f g i) (ap₂ mark e k) ∙ sym (marks_tab f g (i + 1) ∙ tab_more ms i))

-- zeros
pub marks_zeros : (n : ℕ) → marks (replicate n 0) (replicate n 0) ≡ replicate n 0
unfolding mark
marks_zeros zero = refl
marks_zeros (suc n) = cons_path refl (marks_zeros n)

-- ---- the word of a Pauli on n qudits
pub record On (n : ℕ) (p : Pauli) : Type 0 where
  pub of_v : length p.v ≡ n
  pub of_w : length p.w ≡ n

pub view_on : (n : ℕ) (p : Code) → On n (view n p)
view_on n p = record { of_v = tab_length (at p.v) n; of_w = tab_length (at p.w) n }

listed : {n : ℕ} (xs : List ℕ) → length xs ≡ n → tab (λ i. get_or xs i 0) n ≡ xs
listed xs h = rw (sym h) (tab_list 0 xs)

marks_on : {n : ℕ} {p : Pauli} → On n p → marks p.v p.w ≡ tab (λ i. mark (get_or p.v i 0) (get_or p.w i 0)) n
marks_on {n} {p} o = ap₂ marks (sym (listed p.v o.of_v)) (sym (listed p.w o.of_w)) ∙ marks_tab (λ i. get_or p.v i 0) (λ i. get_or p.w i 0) n

marks_many : {n : ℕ} {p : Pauli} → On n p → length (marks p.v p.w) ≡ n
marks_many {n} o = ap length (marks_on o) ∙ tab_length _ n

-- bit i is that of qudit i: it is set exactly when v or w of qudit i isn't 0
support_bit : {n : ℕ} {p : Pauli} (i : ℕ) → On n p → i < n → support_of p / 2 ^ i % 2 ≡ mark (get_or p.v i 0) (get_or p.w i 0)
support_bit {n} {p} i o l = word_bit i (marks_below p.v p.w) ∙ ap (λ (ms : List ℕ). get_or ms i 0) (marks_on o) ∙ tab_at _ n i 0 l

pub support_exactly : {n : ℕ} {p : Pauli} (i : ℕ) → On n p → i < n → (support_of p / 2 ^ i % 2 ≡ 1) ↔ ((get_or p.v i 0 ≢ 0) ⊎ (get_or p.w i 0 ≢ 0))
support_exactly {p = p} i o l = rw (support_bit i o l) (mark_exactly (get_or p.v i 0) (get_or p.w i 0))

-- and no bit from n up is set
pub support_below : {n : ℕ} {p : Pauli} → On n p → support_of p < 2 ^ n
support_below {p = p} o = rw (sym (marks_many o)) (word_below (marks_below p.v p.w))

-- a unit Pauli touches one
single_word : (n i x z : ℕ) → i < n → mark x z ≡ 1 → word_of (marks (set (replicate n 0) i x) (set (replicate n 0) i z)) ≡ 2 ^ i
single_word n i x z l e =
    let within : i < length (replicate {A = ℕ} n 0) = rw (zeros_length n) l in
    ap word_of (marks_set (replicate n 0) (replicate n 0) i x z within within ∙ ap₂ (λ (ms : List ℕ) (m : ℕ). set ms i m) (marks_zeros n) e) ∙ word_single n i l

pub unit_word : (n i : ℕ) → i < n → (support_of (unit_x n i) ≡ 2 ^ i) × (support_of (unit_z n i) ≡ 2 ^ i)
unfolding mark
unit_word n i l =
    let none_set = set_back (replicate n 0) i {b = 0} (sym (get_d_zeros n i)) in (
      ap (λ (ws : List ℕ). word_of (marks (set (replicate n 0) i 1) ws)) (sym none_set) ∙ single_word n i 1 0 l refl,
      ap (λ (vs : List ℕ). word_of (marks vs (set (replicate n 0) i 1))) (sym none_set) ∙ single_word n i 0 1 l refl,
    )

-- the entries of qudit i changed, and its bit in the word r
pub placed_word : {n i word r : ℕ} (x z : ℕ) {p : Pauli} {vs ws : List ℕ} → On n p → i < n → vs ≡ set p.v i x → ws ≡ set p.w i z → word ≡ support_of p → Changes word i x z r → r ≡ word_of (marks vs ws)
placed_word {i = i} x z {p} o l v w e f =
    f (marks p.v p.w) (marks_below p.v p.w) (rw (marks_many o) l) e
    ∙ ap word_of (sym (ap₂ marks v w ∙ marks_set p.v p.w i x z (rw o.of_v l) (rw o.of_w l)))

-- the qudits touched are as many as the word has ones
pub total_ones : (vs ws : List ℕ) → total (marks vs ws) ≡ ones (word_of (marks vs ws))
total_ones vs ws = sym (word_ones (marks_below vs ws))

pub touched_ones : (p : Pauli) → touched_of p ≡ ones (support_of p)
touched_ones p = total_ones p.v p.w

-- ---- no qudit in common
-- of two qudits at one place one isn't touched: the product of an entry of each is 0
apart : (x z y u : ℕ) → min (mark x z) (mark y u) ≡ 0 → (z * y ≡ 0) × (x * u ≡ 0)
apart x z y u e = by_eq (mark x z) 0
    (λ m. let h = unmarked x z m in rw (h.0, h.1) (omega arith, omega arith))
    (λ m. let h = unmarked y u (omega (arith, e, mark_below x z, mark_below y u)) in rw (h.0, h.1) (omega arith, omega arith))

dots_apart : (f g h k : ℕ → ℕ) (n : ℕ) → bit_and (word_of (marks (tab f n) (tab g n))) (word_of (marks (tab h n) (tab k n))) ≡ 0 → (dot (tab g n) (tab h n) ≡ 0) × (dot (tab f n) (tab k n) ≡ 0)
unfolding tab
dots_apart f g h k zero e = (refl, refl)
dots_apart f g h k (suc n) e =
    let vs = tab (λ i. f (suc i)) n in
    let ws = tab (λ i. g (suc i)) n in
    let ss = tab (λ i. h (suc i)) n in
    let ts = tab (λ i. k (suc i)) n in
    let a = mark_below (f 0) (g 0) in
    let b = mark_below (h 0) (k 0) in
    let z = rw (lowest (marks vs ws) a, lowest (marks ss ts) b, higher (marks vs ws) a, higher (marks ss ts) b) at (sym (and_step (word_of (mark (f 0) (g 0) ∷ marks vs ws)) (word_of (mark (h 0) (k 0) ∷ marks ss ts))) ∙ e) in
    let here = apart (f 0) (g 0) (h 0) (k 0) (omega (arith, z)) in
    let rest = dots_apart (λ i. f (suc i)) (λ i. g (suc i)) (λ i. h (suc i)) (λ i. k (suc i)) n (omega (arith, z)) in
    (omega (arith, here.0, rest.0), omega (arith, here.1, rest.1))

-- Paulis whose words share no bit have commutation number 0
pub disjoint_commute : (d : ℕ) {n : ℕ} {p q : Pauli} → 0 < d → On n p → On n q → bit_and (support_of p) (support_of q) ≡ 0 → comm d p q ≡ 0
disjoint_commute d {n} {p} {q} pos o r e =
    let v = listed p.v o.of_v in
    let w = listed p.w o.of_w in
    let s = listed q.v r.of_v in
    let t = listed q.w r.of_w in
    let z = dots_apart (λ i. get_or p.v i 0) (λ i. get_or p.w i 0) (λ i. get_or q.v i 0) (λ i. get_or q.w i 0) n (rw (v, w, s, t) e) in
    let ws = rw (w, s) at z.0 in
    let vt = rw (v, t) at z.1 in
    rw (ws, vt, zero-add (neg d 0)) (neg_zero d 0 pos refl)
