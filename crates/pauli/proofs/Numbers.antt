-- What each kind of row makes of the numbers that it touches is what its effect makes of the Pauli. Assumes nothing.
use mathlib.Core.Path.{◌≡◌, refl, sym, ap, ap₂, subst, ◌∙◌}
use mathlib.Core.Logic.{◌≢◌}
use Prim.Native.Nat.{ℕ, ◌+◌, ◌*◌, ◌%◌, ◌<◌}
use native.Mathlib.Omega.{arith}
use lib.ListN.{length, get_or, set, length-set}
use lib.Seq.{set-set, get_or-set_same, get_or-set_other}
use Rattle.arith.specs.Residues.{neg}
use Rattle.arith.specs.Units.{inverse_of}
use Rattle.pauli.specs.Pauli.{Pauli}
use Rattle.pauli.specs.declared.Pauli.{Pauli as Code}
use Rattle.pauli.specs.Inner.View.{at, view}
use Rattle.arith.proofs.Bytes.{tab_length}
use Rattle.pauli.specs.Inner.Touched.{Touched, touched, placed, replaced, Has, Puts, OnOne}
use Rattle.pauli.specs.Effects.{fourier, effect_s, effect_a, effect_m, effect_x, effect_z, effect_c, effect_w}
use Rattle.pauli.proofs.Lists.{set_back, stored_first, stored_second, two_back}
use Rattle.pauli.proofs.Ranges.{pauli_path}

-- the numbers of one qudit
abbrev pub one : ℕ → ℕ → ℕ → Touched
one h x z = record { phase = h; vi = x; wi = z; vj = x; wj = z }

pub touched_path : {s t : Touched} → s.phase ≡ t.phase → s.vi ≡ t.vi → s.wi ≡ t.wi → s.vj ≡ t.vj → s.wj ≡ t.wj → s ≡ t
touched_path a b c d e k = record { phase = a k; vi = b k; wi = c k; vj = d k; wj = e k }

-- the qudits of a Pauli of the code
pub view_has : {n i : ℕ} (p : Code) → i < n → Has i (view n p)
view_has {n} p l = record { in_v = omega (arith, tab_length (at p.v) n); in_w = omega (arith, tab_length (at p.w) n) }

-- ---- numbers put in a Pauli, at one qudit and at two
module _ {i : ℕ} {p q : Pauli} {h x z : ℕ} (a : Has i p) (e : q.phase ≡ h) (f : q.v ≡ set p.v i x) (g : q.w ≡ set p.w i z) where
  pub puts_one : Puts i i (one h x z) p q
  puts_one = record { replaces = pauli_path e (f ∙ sym (set-set p.v i x x)) (g ∙ sym (set-set p.w i z z)); holds = touched_path e in_v in_w in_v in_w }
    where
      in_v : get_or q.v i 0 ≡ x
      in_v = ap (λ (l : _). get_or l i 0) f ∙ get_or-set_same p.v i x 0 a.in_v

      in_w : get_or q.w i 0 ≡ z
      in_w = ap (λ (l : _). get_or l i 0) g ∙ get_or-set_same p.w i z 0 a.in_w

-- on one qudit the two pairs put are the same, so that one of them is enough
pub placed_one : {i : ℕ} {p q : Pauli} {t : Touched} → Puts i i t p q → q ≡ placed i t.phase t.vi t.wi p
placed_one {i} {p} r = r.replaces ∙ pauli_path refl
    (set-set p.v i _ _ ∙ ap (set p.v i) (sym (ap (λ (t : Touched). t.vj) r.holds) ∙ ap (λ (t : Touched). t.vi) r.holds))
    (set-set p.w i _ _ ∙ ap (set p.w i) (sym (ap (λ (t : Touched). t.wj) r.holds) ∙ ap (λ (t : Touched). t.wi) r.holds))

-- where no entry changes, the phase is enough
pub phase_alone : {i : ℕ} {p q : Pauli} {t : Touched} → Puts i i t p q → q.v ≡ p.v → q.w ≡ p.w → q ≡ record { phase = t.phase; v = p.v; w = p.w }
phase_alone r e f = pauli_path (ap (λ (t : Touched). t.phase) r.holds) e f

-- on two, one pair is put after the other
pub placed_two : {i j : ℕ} {p q r s : Pauli} {t : Touched} → q ≡ placed i t.phase t.vi t.wi p → r ≡ placed j t.phase t.vj t.wj q → Puts i j t p s → r ≡ s
placed_two {j = j} {t = t} e f u = f ∙ ap (placed j t.phase t.vj t.wj) e ∙ sym u.replaces

-- ---- nothing done, and one effect after another
pub puts_none : {o : Touched} → OnOne (λ i p. p) o o
puts_none i p a e = record {
  replaces = subst (λ (o : Touched). p ≡ replaced i i o p) e (pauli_path refl (sym (set-set p.v i _ _ ∙ set_back p.v i refl)) (sym (set-set p.w i _ _ ∙ set_back p.w i refl)));
  holds = e;
}

module _ {i j : ℕ} {p q : Pauli} {h x z y u : ℕ} (apart : i ≢ j) (a : Has i p) (b : Has j p)
    (e : q.phase ≡ h) (f : q.v ≡ set (set p.v i x) j y) (g : q.w ≡ set (set p.w i z) j u) where
  pub puts_two : Puts i j (record { phase = h; vi = x; wi = z; vj = y; wj = u }) p q
  puts_two = record {
    replaces = pauli_path e f g;
    holds = touched_path e
        (ap (λ (l : _). get_or l i 0) f ∙ stored_first p.v x y apart a.in_v)
        (ap (λ (l : _). get_or l i 0) g ∙ stored_first p.w z u apart a.in_w)
        (ap (λ (l : _). get_or l j 0) f ∙ stored_second p.v x y apart b.in_v)
        (ap (λ (l : _). get_or l j 0) g ∙ stored_second p.w z u apart b.in_w);
  }

-- ---- one effect after another
pub puts_next : {f g : ℕ → Pauli → Pauli} {o s t : Touched} → OnOne f o s → OnOne g s t → OnOne (λ i p. g i (f i p)) o t
puts_next {f} {g} {o} {s} {t} m n i p a e =
    let b = m i p a e in
    let c = n i (f i p) (kept b.replaces) b.holds in
    record { replaces = c.replaces ∙ ap (replaced i i t) b.replaces ∙ again; holds = c.holds }
  where
    kept : {q : Pauli} → q ≡ replaced i i s p → Has i q
    kept r = record {
      in_v = omega (arith, a.in_v, ap (λ (x : Pauli). length x.v) r, length-set (set p.v i s.vi) i s.vj, length-set p.v i s.vi);
      in_w = omega (arith, a.in_w, ap (λ (x : Pauli). length x.w) r, length-set (set p.w i s.wi) i s.wj, length-set p.w i s.wi);
    }

    four : (l : _) (w x y z : ℕ) → set (set (set (set l i w) i x) i y) i z ≡ set (set l i y) i z
    four l w x y z = rw (set-set (set (set l i w) i x) i y z, set-set (set l i w) i x z, set-set l i w z, set-set l i y z)

    again : replaced i i t (replaced i i s p) ≡ replaced i i t p
    again = pauli_path refl (four p.v _ _ _ _) (four p.w _ _ _ _)

-- ---- the kinds, with the numbers h, x and z that the code makes of the old ones
module _ (d : ℕ) {i : ℕ} {p : Pauli} (a : Has i p) where
  pub puts_f : {o : Touched} {h x : ℕ} → touched i i p ≡ o → h ≡ (o.phase + neg (2 * d) (2 * (o.vi * o.wi))) % (2 * d) → x ≡ neg d o.wi % d → Puts i i (one h x o.vi) p (fourier d i p)
  puts_f {o} {h} {x} e = subst (λ (o : Touched). h ≡ (o.phase + neg (2 * d) (2 * (o.vi * o.wi))) % (2 * d) → x ≡ neg d o.wi % d → Puts i i (one h x o.vi) p (fourier d i p)) e
      (λ eh ex. puts_one a (sym eh) (ap (set p.v i) (sym ex)) refl)

-- what F makes of them, once and twice
abbrev pub turned : ℕ → Touched → Touched
turned d o = one ((o.phase + neg (2 * d) (2 * (o.vi * o.wi))) % (2 * d)) (neg d o.wi % d) o.vi

puts_turned : (d : ℕ) (o : Touched) → OnOne (fourier d) o (turned d o)
puts_turned d o i p a e = puts_f d a e refl refl

pub puts_half_turn : (d : ℕ) {o : Touched} {h x z : ℕ} → h ≡ (turned d (turned d o)).phase → x ≡ neg d o.vi % d → z ≡ neg d o.wi % d → OnOne (λ i p. fourier d i (fourier d i p)) o (one h x z)
puts_half_turn d {o} eh ex ez = rw (eh, ex, ez) (puts_next (puts_turned d o) (puts_turned d (turned d o)))

module _ (d k : ℕ) {i : ℕ} {p : Pauli} (a : Has i p) where
  pub puts_s : {o : Touched} {h z : ℕ} → touched i i p ≡ o → h ≡ (o.phase + k * (o.vi * (o.vi + d))) % (2 * d) → z ≡ (o.wi + k * o.vi) % d → Puts i i (one h o.vi z) p (effect_s d i k p)
  puts_s {o} {h} {z} e = subst (λ (o : Touched). h ≡ (o.phase + k * (o.vi * (o.vi + d))) % (2 * d) → z ≡ (o.wi + k * o.vi) % d → Puts i i (one h o.vi z) p (effect_s d i k p)) e
      (λ eh ez. puts_one a (sym eh) (sym (set_back p.v i refl)) (ap (set p.w i) (sym ez)))

  pub puts_m : {o : Touched} {x z : ℕ} → touched i i p ≡ o → x ≡ k * o.vi % d → z ≡ inverse_of d k * o.wi % d → Puts i i (one o.phase x z) p (effect_m d i k p)
  puts_m {o} {x} {z} e = subst (λ (o : Touched). x ≡ k * o.vi % d → z ≡ inverse_of d k * o.wi % d → Puts i i (one o.phase x z) p (effect_m d i k p)) e
      (λ ex ez. puts_one a refl (ap (set p.v i) (sym ex)) (ap (set p.w i) (sym ez)))

  pub puts_x : {o : Touched} {h : ℕ} → touched i i p ≡ o → h ≡ (o.phase + neg (2 * d) (2 * (k * o.wi))) % (2 * d) → Puts i i (one h o.vi o.wi) p (effect_x d i k p)
  puts_x {o} {h} e = subst (λ (o : Touched). h ≡ (o.phase + neg (2 * d) (2 * (k * o.wi))) % (2 * d) → Puts i i (one h o.vi o.wi) p (effect_x d i k p)) e
      (λ eh. puts_one a (sym eh) (sym (set_back p.v i refl)) (sym (set_back p.w i refl)))

  pub puts_z : {o : Touched} {h : ℕ} → touched i i p ≡ o → h ≡ (o.phase + 2 * (k * o.vi)) % (2 * d) → Puts i i (one h o.vi o.wi) p (effect_z d i k p)
  puts_z {o} {h} e = subst (λ (o : Touched). h ≡ (o.phase + 2 * (k * o.vi)) % (2 * d) → Puts i i (one h o.vi o.wi) p (effect_z d i k p)) e
      (λ eh. puts_one a (sym eh) (sym (set_back p.v i refl)) (sym (set_back p.w i refl)))

pub puts_a : (d k : ℕ) {i j : ℕ} {p : Pauli} {o : Touched} {z y : ℕ} → i ≢ j → Has i p → Has j p → touched i j p ≡ o → z ≡ (o.wi + neg d (k * o.wj)) % d → y ≡ (o.vj + k * o.vi) % d
    → Puts i j (record { phase = o.phase; vi = o.vi; wi = z; vj = y; wj = o.wj }) p (effect_a d i j k p)
puts_a d k {i} {j} {p} {o} {z} {y} apart a b e = subst (λ (o : Touched). z ≡ (o.wi + neg d (k * o.wj)) % d → y ≡ (o.vj + k * o.vi) % d
    → Puts i j (record { phase = o.phase; vi = o.vi; wi = z; vj = y; wj = o.wj }) p (effect_a d i j k p)) e
    (λ ez ey. puts_two apart a b refl
    (ap (set p.v j) (sym ey) ∙ ap (λ (l : _). set l j y) (sym (set_back p.v i refl)))
    (ap (set p.w i) (sym ez) ∙ sym (set_back (set p.w i z) j (sym (get_or-set_other p.w i j z 0 (λ q. apart (sym q)))))))

pub puts_c : (d k : ℕ) {i j : ℕ} {p : Pauli} {o : Touched} {h z u : ℕ} → i ≢ j → Has i p → Has j p → touched i j p ≡ o
    → h ≡ (o.phase + 2 * (k * (o.vi * o.vj))) % (2 * d) → z ≡ (o.wi + k * o.vj) % d → u ≡ (o.wj + k * o.vi) % d
    → Puts i j (record { phase = h; vi = o.vi; wi = z; vj = o.vj; wj = u }) p (effect_c d i j k p)
puts_c d k {i} {j} {p} {o} {h} {z} {u} apart a b e = subst (λ (o : Touched). h ≡ (o.phase + 2 * (k * (o.vi * o.vj))) % (2 * d) → z ≡ (o.wi + k * o.vj) % d → u ≡ (o.wj + k * o.vi) % d
    → Puts i j (record { phase = h; vi = o.vi; wi = z; vj = o.vj; wj = u }) p (effect_c d i j k p)) e
    (λ eh ez eu. puts_two apart a b (sym eh) (sym (two_back p.v i j refl refl)) (ap₂ (λ (x y : ℕ). set (set p.w i x) j y) (sym ez) (sym eu)))

pub puts_w : {i j : ℕ} {p : Pauli} {o : Touched} → i ≢ j → Has i p → Has j p → touched i j p ≡ o
    → Puts i j (record { phase = o.phase; vi = o.vj; wi = o.wj; vj = o.vi; wj = o.wi }) p (effect_w i j p)
puts_w {i} {j} {p} apart a b e = subst (λ (o : Touched). Puts i j (record { phase = o.phase; vi = o.vj; wi = o.wj; vj = o.vi; wj = o.wi }) p (effect_w i j p)) e (puts_two apart a b refl refl refl)
