-- What each row does to the entries of a Pauli, and rows that change it at one qudit alone; units up to phase, and when a row keeps them; commutation numbers with units.
use mathlib.Core.Path.{◌≡◌, refl, sym, ◌∙◌, ap}
use mathlib.Core.List.{[], ◌∷◌}
use mathlib.Core.Logic.{◌≢◌}
use Prim.Native.Nat.{ℕ, ◌+◌, ◌*◌, ◌%◌, ◌<◌}
use native.Mathlib.Nat.{mul-zero, mul-one}
use native.Mathlib.Omega.{arith}
use lib.ListN.{length, get_or}
use lib.Seq.{get_or-set_same, get_or-set_other, lt-length-set}
use Rattle.arith.proofs.Cases.{by_eq}
use Rattle.arith.proofs.Cong.{Cong, cong_of_eq, cong_trans}
use Rattle.arith.specs.Residues.{neg}
use Rattle.arith.proofs.Ring.{ring₁_by, times, ◌also◌, quote}
use Rattle.arith.proofs.Remainders.{idle, mod_of, neg_neg, mul_none, neg_none, neg_zero}
use Rattle.arith.specs.Units.{inverse_of}
use Rattle.pauli.specs.Pauli.{Pauli, InRange, dot, comm}
use Rattle.pauli.proofs.Dots.{dot_at, dot_comm}
use Rattle.pauli.proofs.Ranges.{in_w, in_v, w_less, d_pos, v_less}
use Rattle.gates.specs.Row.{F, S, A, M, apply}
use Rattle.pauli.specs.Effects.{fourier}

abbrev pub v_of : Pauli → ℕ → ℕ
v_of p i = get_or p.v i 0

abbrev pub w_of : Pauli → ℕ → ℕ
w_of p i = get_or p.w i 0

-- ---- numbers: nothing added, and the negative of nothing
s_keep : (d k x y : ℕ) → x < d → y ≡ 0 → (x + k * y) % d ≡ x
s_keep d k x y l e = idle l (cong_of_eq (mul_none k e))

a_keep : (d k x y : ℕ) → x < d → y ≡ 0 → (x + neg d (k * y)) % d ≡ x
a_keep d k x y l e = idle l (neg_none (omega arith) (mul_none k e))

-- ---- the rows, by entries
pub record AfterS (d i k : ℕ) (p q : Pauli) : Type 0 where
  pub v_kept : (j : ℕ) → v_of q j ≡ v_of p j
  pub w_becomes : w_of q i ≡ (w_of p i + k * v_of p i) % d
  pub w_kept : (j : ℕ) → j ≢ i → w_of q j ≡ w_of p j

pub record AfterA (d i j k : ℕ) (p q : Pauli) : Type 0 where
  pub v_becomes : v_of q j ≡ (v_of p j + k * v_of p i) % d
  pub v_kept : (l : ℕ) → l ≢ j → v_of q l ≡ v_of p l
  pub w_becomes : w_of q i ≡ (w_of p i + neg d (k * w_of p j)) % d
  pub w_kept : (l : ℕ) → l ≢ i → w_of q l ≡ w_of p l

-- M, by what it does to v
pub record AfterM (d i k : ℕ) (p q : Pauli) : Type 0 where
  pub v_becomes : v_of q i ≡ k * v_of p i % d
  pub w_zero : w_of p i ≡ 0 → w_of q i ≡ 0
  pub v_kept : (l : ℕ) → l ≢ i → v_of q l ≡ v_of p l
  pub w_kept : (l : ℕ) → l ≢ i → w_of q l ≡ w_of p l

pub record AfterF (d i : ℕ) (p q : Pauli) : Type 0 where
  pub v_becomes : v_of q i ≡ neg d (w_of p i) % d
  pub w_becomes : w_of q i ≡ v_of p i
  pub v_kept : (l : ℕ) → l ≢ i → v_of q l ≡ v_of p l
  pub w_kept : (l : ℕ) → l ≢ i → w_of q l ≡ w_of p l

pub record AfterF3 (d i : ℕ) (p q : Pauli) : Type 0 where
  pub v_becomes : v_of q i ≡ w_of p i
  pub w_becomes : w_of q i ≡ neg d (v_of p i) % d
  pub v_kept : (l : ℕ) → l ≢ i → v_of q l ≡ v_of p l
  pub w_kept : (l : ℕ) → l ≢ i → w_of q l ≡ w_of p l

times_zero : (d k x : ℕ) → 0 < d → x ≡ 0 → k * x % d ≡ 0
times_zero d k x p e = mod_of (k * x) (cong_of_eq (mul_none k e)) p

module _ {d n : ℕ} {p : Pauli} (h : InRange d n p) where
  pub after_s : (i k : ℕ) → i < n → AfterS d i k p (apply d (S i k) p)
  after_s i k l = record {
    v_kept = λ j. refl;
    w_becomes = get_or-set_same p.w i ((w_of p i + k * v_of p i) % d) 0 (in_w h l);
    w_kept = λ j ne. get_or-set_other p.w i j ((w_of p i + k * v_of p i) % d) 0 ne;
  }

  pub after_a : (i j k : ℕ) → i < n → j < n → AfterA d i j k p (apply d (A i j k) p)
  after_a i j k l m = record {
    v_becomes = get_or-set_same p.v j ((v_of p j + k * v_of p i) % d) 0 (in_v h m);
    v_kept = λ x ne. get_or-set_other p.v j x ((v_of p j + k * v_of p i) % d) 0 ne;
    w_becomes = get_or-set_same p.w i ((w_of p i + neg d (k * w_of p j)) % d) 0 (in_w h l);
    w_kept = λ x ne. get_or-set_other p.w i x ((w_of p i + neg d (k * w_of p j)) % d) 0 ne;
  }

  pub after_a_none : (i j : ℕ) → AfterA d i j 0 p p
  after_a_none i j = record {
    v_becomes = sym (idle (v_less h j) (cong_of_eq (omega arith)));
    v_kept = λ x ne. refl;
    w_becomes = sym (idle (w_less h i) (neg_none (d_pos h) (omega arith)));
    w_kept = λ x ne. refl;
  }

  pub after_m : (i k : ℕ) → i < n → AfterM d i k p (apply d (M i k) p)
  after_m i k l = record {
    v_becomes = get_or-set_same p.v i (k * v_of p i % d) 0 (in_v h l);
    w_zero = λ z. get_or-set_same p.w i (inverse_of d k * w_of p i % d) 0 (in_w h l) ∙ times_zero d (inverse_of d k) (w_of p i) (d_pos h) z;
    v_kept = λ x ne. get_or-set_other p.v i x (k * v_of p i % d) 0 ne;
    w_kept = λ x ne. get_or-set_other p.w i x (inverse_of d k * w_of p i % d) 0 ne;
  }

  pub after_m_none : (i : ℕ) → AfterM d i 1 p p
  after_m_none i = record { v_becomes = sym (mod_of (1 * v_of p i) (cong_of_eq (omega arith)) (v_less h i)); w_zero = λ z. z; v_kept = λ x ne. refl; w_kept = λ x ne. refl }

-- what F needs of a Pauli: the qudit is there
fourier_after : (d i : ℕ) (p : Pauli) → i < length p.v → i < length p.w → AfterF d i p (fourier d i p)
fourier_after d i p l m = record {
  v_becomes = get_or-set_same p.v i (neg d (w_of p i) % d) 0 l;
  w_becomes = get_or-set_same p.w i (v_of p i) 0 m;
  v_kept = λ x ne. get_or-set_other p.v i x (neg d (w_of p i) % d) 0 ne;
  w_kept = λ x ne. get_or-set_other p.w i x (v_of p i) 0 ne;
}

three : (d i : ℕ) (p q r s : Pauli) → w_of p i < d → AfterF d i p q → AfterF d i q r → AfterF d i r s → AfterF3 d i p s
three d i p q r s l f g h = record {
  v_becomes = h.v_becomes ∙ ap (λ (x : ℕ). neg d x % d) (g.w_becomes ∙ f.v_becomes) ∙ neg_neg d (w_of p i) l;
  w_becomes = h.w_becomes ∙ g.v_becomes ∙ ap (λ (x : ℕ). neg d x % d) f.w_becomes;
  v_kept = λ x ne. h.v_kept x ne ∙ g.v_kept x ne ∙ f.v_kept x ne;
  w_kept = λ x ne. h.w_kept x ne ∙ g.w_kept x ne ∙ f.w_kept x ne;
}

module _ {d n : ℕ} {p : Pauli} (h : InRange d n p) where
  pub after_f : (i : ℕ) → i < n → AfterF d i p (apply d (F i 1) p)
  after_f i l = fourier_after d i p (in_v h l) (in_w h l)

  pub after_f3 : (i : ℕ) → i < n → AfterF3 d i p (apply d (F i 3) p)
  after_f3 i l =
      let q : Pauli = fourier d i p in
      let qv : i < length q.v = lt-length-set p.v i (neg d (w_of p i) % d) (in_v h l) in
      let qw : i < length q.w = lt-length-set p.w i (v_of p i) (in_w h l) in
      let r : Pauli = fourier d i q in
      let rv : i < length r.v = lt-length-set q.v i (neg d (w_of q i) % d) qv in
      let rw' : i < length r.w = lt-length-set q.w i (v_of q i) qw in
      three d i p q r (fourier d i r) (w_less h i) (fourier_after d i p (in_v h l) (in_w h l)) (fourier_after d i q qv qw) (fourier_after d i r rv rw')

-- ---- a change at one qudit
pub record Local (i : ℕ) (p q : Pauli) : Type 0 where
  pub v_kept : (l : ℕ) → l ≢ i → v_of q l ≡ v_of p l
  pub w_kept : (l : ℕ) → l ≢ i → w_of q l ≡ w_of p l
  pub v_zero : v_of p i ≡ 0 → w_of p i ≡ 0 → v_of q i ≡ 0
  pub w_zero : v_of p i ≡ 0 → w_of p i ≡ 0 → w_of q i ≡ 0

pub local_none : (i : ℕ) (p : Pauli) → Local i p p
local_none i p = record { v_kept = λ l ne. refl; w_kept = λ l ne. refl; v_zero = λ e f. e; w_zero = λ e f. f }

pub local_then : {i : ℕ} {p q r : Pauli} → Local i p q → Local i q r → Local i p r
local_then a b = record {
  v_kept = λ l ne. b.v_kept l ne ∙ a.v_kept l ne;
  w_kept = λ l ne. b.w_kept l ne ∙ a.w_kept l ne;
  v_zero = λ e f. b.v_zero (a.v_zero e f) (a.w_zero e f);
  w_zero = λ e f. b.w_zero (a.v_zero e f) (a.w_zero e f);
}

module _ {d n i : ℕ} {p q : Pauli} (h : InRange d n p) where
  pub local_s : {k : ℕ} → AfterS d i k p q → Local i p q
  local_s {k} a = record {
    v_kept = λ l ne. a.v_kept l;
    w_kept = a.w_kept;
    v_zero = λ e f. a.v_kept i ∙ e;
    w_zero = λ e f. a.w_becomes ∙ idle (w_less h i) (cong_of_eq (mul_none k e)) ∙ f;
  }

  pub local_f : AfterF d i p q → Local i p q
  local_f a = record {
    v_kept = a.v_kept;
    w_kept = a.w_kept;
    v_zero = λ e f. a.v_becomes ∙ neg_zero d (w_of p i) (d_pos h) f;
    w_zero = λ e f. a.w_becomes ∙ e;
  }

  pub local_f3 : AfterF3 d i p q → Local i p q
  local_f3 a = record {
    v_kept = a.v_kept;
    w_kept = a.w_kept;
    v_zero = λ e f. a.v_becomes ∙ f;
    w_zero = λ e f. a.w_becomes ∙ neg_zero d (v_of p i) (d_pos h) e;
  }

  pub local_m : {k : ℕ} → AfterM d i k p q → Local i p q
  local_m {k} a = record { v_kept = a.v_kept; w_kept = a.w_kept; v_zero = λ e f. a.v_becomes ∙ times_zero d k (v_of p i) (d_pos h) e; w_zero = λ e f. a.w_zero f }

-- ---- units up to phase
pub record IsX (k : ℕ) (p : Pauli) : Type 0 where
  pub v_one : v_of p k ≡ 1
  pub v_rest : (i : ℕ) → i ≢ k → v_of p i ≡ 0
  pub w_all : (i : ℕ) → w_of p i ≡ 0

pub record IsZ (k : ℕ) (p : Pauli) : Type 0 where
  pub w_one : w_of p k ≡ 1
  pub w_rest : (i : ℕ) → i ≢ k → w_of p i ≡ 0
  pub v_all : (i : ℕ) → v_of p i ≡ 0

-- a function's value at i and elsewhere
at_or_not : (f : ℕ → ℕ) (i y l : ℕ) → f i ≡ y → (l ≢ i → f l ≡ y) → f l ≡ y
at_or_not f i y l e g = by_eq l i (λ q. ap f q ∙ e) g

module _ {d n : ℕ} {p q : Pauli} (h : InRange d n p) where
  v_after_a : {i j m : ℕ} → AfterA d i j m p q → v_of p i ≡ 0 → (l : ℕ) → v_of q l ≡ v_of p l
  v_after_a {i} {j} {m} a e l = by_eq l j (λ f. ap (v_of q) f ∙ a.v_becomes ∙ s_keep d m (v_of p j) (v_of p i) (v_less h j) e ∙ ap (v_of p) (sym f)) (λ nl. a.v_kept l nl)

  pub w_after_a : {i j m : ℕ} → AfterA d i j m p q → w_of p j ≡ 0 → (l : ℕ) → w_of q l ≡ w_of p l
  w_after_a {i} {j} {m} a e l = by_eq l i (λ f. ap (w_of q) f ∙ a.w_becomes ∙ a_keep d m (w_of p i) (w_of p j) (w_less h i) e ∙ ap (w_of p) (sym f)) (λ nl. a.w_kept l nl)

module _ {d n k : ℕ} {p q : Pauli} (h : InRange d n p) where
  z_w_after_s : {i m : ℕ} → IsZ k p → AfterS d i m p q → (l : ℕ) → w_of q l ≡ w_of p l
  z_w_after_s {i} {m} z a l = by_eq l i (λ e. ap (w_of q) e ∙ a.w_becomes ∙ s_keep d m (w_of p i) (v_of p i) (w_less h i) (z.v_all i) ∙ ap (w_of p) (sym e)) (λ nl. a.w_kept l nl)

  pub z_after_s : {i m : ℕ} → IsZ k p → AfterS d i m p q → IsZ k q
  z_after_s {i} {m} z a = record {
    w_one = z_w_after_s z a k ∙ z.w_one;
    w_rest = λ l nl. z_w_after_s z a l ∙ z.w_rest l nl;
    v_all = λ l. a.v_kept l ∙ z.v_all l;
  }

  pub x_after_a : {i j m : ℕ} → IsX k p → AfterA d i j m p q → i ≢ k → IsX k q
  x_after_a {i} {j} {m} x a ne = record {
    v_one = v_after_a h a (x.v_rest i ne) k ∙ x.v_one;
    v_rest = λ l nl. v_after_a h a (x.v_rest i ne) l ∙ x.v_rest l nl;
    w_all = λ l. w_after_a h a (x.w_all j) l ∙ x.w_all l;
  }

  pub z_after_a : {i j m : ℕ} → IsZ k p → AfterA d i j m p q → j ≢ k → IsZ k q
  z_after_a {i} {j} {m} z a ne = record {
    w_one = w_after_a h a (z.w_rest j ne) k ∙ z.w_one;
    w_rest = λ l nl. w_after_a h a (z.w_rest j ne) l ∙ z.w_rest l nl;
    v_all = λ l. v_after_a h a (z.v_all i) l ∙ z.v_all l;
  }

-- a change at one qudit keeps the units of the others
module _ {i k : ℕ} {p q : Pauli} (a : Local i p q) (ne : i ≢ k) where
  pub x_after_local : IsX k p → IsX k q
  x_after_local x = record {
    v_one = a.v_kept k (λ e. ne (sym e)) ∙ x.v_one;
    v_rest = λ l nl. at_or_not (v_of q) i 0 l (a.v_zero (x.v_rest i ne) (x.w_all i)) (λ ni. a.v_kept l ni ∙ x.v_rest l nl);
    w_all = λ l. at_or_not (w_of q) i 0 l (a.w_zero (x.v_rest i ne) (x.w_all i)) (λ ni. a.w_kept l ni ∙ x.w_all l);
  }

  pub z_after_local : IsZ k p → IsZ k q
  z_after_local z = record {
    w_one = a.w_kept k (λ e. ne (sym e)) ∙ z.w_one;
    w_rest = λ l nl. at_or_not (w_of q) i 0 l (a.w_zero (z.v_all i) (z.w_rest i ne)) (λ ni. a.w_kept l ni ∙ z.w_rest l nl);
    v_all = λ l. at_or_not (v_of q) i 0 l (a.v_zero (z.v_all i) (z.w_rest i ne)) (λ ni. a.v_kept l ni ∙ z.v_all l);
  }

-- F on the unit's own qudit
module _ {d n k : ℕ} {p q : Pauli} (h : InRange d n p) where
  pub x_to_z : IsX k p → AfterF d k p q → IsZ k q
  x_to_z x a = record {
    w_one = a.w_becomes ∙ x.v_one;
    w_rest = λ l nl. a.w_kept l nl ∙ x.w_all l;
    v_all = λ l. at_or_not (v_of q) k 0 l (a.v_becomes ∙ neg_zero d (w_of p k) (d_pos h) (x.w_all k)) (λ ni. a.v_kept l ni ∙ x.v_rest l ni);
  }

  pub z_to_x : IsZ k p → AfterF3 d k p q → IsX k q
  z_to_x z a = record {
    v_one = a.v_becomes ∙ z.w_one;
    v_rest = λ l nl. a.v_kept l nl ∙ z.v_all l;
    w_all = λ l. at_or_not (w_of q) k 0 l (a.w_becomes ∙ neg_zero d (v_of p k) (d_pos h) (z.v_all k)) (λ ni. a.w_kept l ni ∙ z.w_rest l ni);
  }

-- ---- commutation numbers with a unit
dot_wx : {k : ℕ} (q p : Pauli) → IsX k p → dot q.w p.v ≡ w_of q k
dot_wx {k} q p x = dot_at q.w p.v k x.v_rest ∙ ap (λ (z : ℕ). w_of q k * z) x.v_one ∙ mul-one (w_of q k)

dot_vx : {k : ℕ} (q p : Pauli) → IsX k p → dot q.v p.w ≡ 0
dot_vx {k} q p x = dot_at q.v p.w k (λ i ne. x.w_all i) ∙ ap (λ (z : ℕ). v_of q k * z) (x.w_all k) ∙ mul-zero (v_of q k)

dot_vz : {k : ℕ} (q p : Pauli) → IsZ k p → dot q.v p.w ≡ v_of q k
dot_vz {k} q p x = dot_at q.v p.w k x.w_rest ∙ ap (λ (z : ℕ). v_of q k * z) x.w_one ∙ mul-one (v_of q k)

dot_wz : {k : ℕ} (q p : Pauli) → IsZ k p → dot q.w p.v ≡ 0
dot_wz {k} q p x = dot_at q.w p.v k (λ i ne. x.v_all i) ∙ ap (λ (z : ℕ). w_of q k * z) (x.v_all k) ∙ mul-zero (w_of q k)

-- x − y modulo d with one of the two 0
minus_right : (d x y z : ℕ) → 0 < d → x ≡ 0 → (x + neg d y) % d ≡ z → Cong d y (neg d z)
minus_right d x y z p e h = ring₁_by d (x ∷ y ∷ z ∷ []) p
    (times {z = neg d 1} (search quote) (search quote depth 30) (search quote) (cong_of_eq h) also times {z = 1} (search quote) (search quote) (search quote) (cong_of_eq e))
    (search quote depth 30) (search quote depth 30) tt

minus_left : (d x y z : ℕ) → 0 < d → y ≡ 0 → (x + neg d y) % d ≡ z → Cong d x z
minus_left d x y z p e h = ring₁_by d (x ∷ y ∷ z ∷ []) p
    (times {z = 1} (search quote) (search quote depth 30) (search quote) (cong_of_eq h) also times {z = 1} (search quote) (search quote) (search quote) (cong_of_eq e))
    (search quote depth 30) (search quote depth 30) tt

module _ {d k : ℕ} (pos : 0 < d) (p q : Pauli) {z : ℕ} where
  pub comm_x_l : IsX k p → comm d p q ≡ z → Cong d (w_of q k) (neg d z)
  comm_x_l x e = cong_trans (cong_of_eq (sym (dot_comm p.v q.w ∙ dot_wx q p x))) (minus_right d (dot p.w q.v) (dot p.v q.w) z pos (dot_comm p.w q.v ∙ dot_vx q p x) e)

  pub comm_z_l : IsZ k p → comm d p q ≡ z → Cong d (v_of q k) z
  comm_z_l x e = cong_trans (cong_of_eq (sym (dot_comm p.w q.v ∙ dot_vz q p x))) (minus_left d (dot p.w q.v) (dot p.v q.w) z pos (dot_comm p.v q.w ∙ dot_wz q p x) e)

  pub comm_z_r : IsZ k q → comm d p q ≡ z → Cong d (v_of p k) (neg d z)
  comm_z_r x e = cong_trans (cong_of_eq (sym (dot_vz p q x))) (minus_right d (dot p.w q.v) (dot p.v q.w) z pos (dot_wz p q x) e)
