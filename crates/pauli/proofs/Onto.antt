-- A map that keeps products and phases takes every Pauli in range as a value: it is injective, and the entries are finitely many.
use mathlib.Core.Path.{◌≡◌, refl, sym, ◌∙◌, ap}
use mathlib.Core.List.{[], ◌∷◌, ◌++◌}
use Prim.Native.Nat.{ℕ, ◌+◌, ◌*◌, ◌<◌}
use native.Mathlib.Nat.{mod-eq_of_lt}
use native.Mathlib.Omega.{arith}
use lib.ListN.{take, drop, length-drop, take-append-drop}
use lib.Seq.{length-take-le, take_at, drop_at}
use Rattle.arith.proofs.Cong.{Cong}
use Rattle.arith.specs.Residues.{neg}
use Rattle.arith.proofs.Ring.{ring₂, quote}
use Rattle.arith.proofs.Pigeonhole.{Apart, Hit, onto}
use Rattle.pauli.specs.Pauli.{Pauli, InRange}
use Rattle.pauli.proofs.Lists.{take_below, append_below, drop_below}
use Rattle.pauli.proofs.Ranges.{pauli_path, entries_length}
use Rattle.pauli.proofs.Group.{shifted, shift_range}
use Rattle.pauli.proofs.Hom.{Hom, bare, hom_entries, hom_shift}
use Rattle.pauli.proofs.Digits.{count, encode, decode, decode_length, decode_below, encode_decode, decode_encode, encode_below}

-- ---- the Paulis of phase 0, numbered
abbrev numbered : ℕ → ℕ → ℕ → Pauli
numbered d n k = record { phase = 0; v = take n (decode d (n + n) k); w = drop n (decode d (n + n) k) }

abbrev number : ℕ → Pauli → ℕ
number d p = encode d (p.v ++ p.w)

numbered_range : (d n k : ℕ) → 0 < d → InRange d n (numbered d n k)
numbered_range d n k pos = record {
  phase_below = omega arith;
  v_length = length-take-le n (decode d (n + n) k) (omega (arith, decode_length d (n + n) k));
  w_length = length-drop n (decode d (n + n) k) ∙ omega (arith, decode_length d (n + n) k);
  v_below = take_below n (decode_below d (n + n) k pos);
  w_below = drop_below n (decode_below d (n + n) k pos);
}

number_numbered : (d n k : ℕ) → 0 < d → k < count d (n + n) → number d (numbered d n k) ≡ k
number_numbered d n k pos l = ap (encode d) (take-append-drop n (decode d (n + n) k)) ∙ encode_decode d (n + n) k pos l

numbered_number : (d n : ℕ) {p : Pauli} → 0 < d → InRange d n p → numbered d n (number d p) ≡ bare p
numbered_number d n {p} pos a = pauli_path refl
    (ap (take n) e ∙ take_at p.v p.w n a.v_length)
    (ap (drop n) e ∙ drop_at p.v p.w n a.v_length)
  where
    e : decode d (n + n) (encode d (p.v ++ p.w)) ≡ p.v ++ p.w
    e = decode_encode (n + n) pos (entries_length a) (append_below a.v_below a.w_below)

-- ---- onto
pub record Source (d n : ℕ) (f : Pauli → Pauli) (q : Pauli) : Type 0 where
  pub source : Pauli
  pub source_range : InRange d n source
  pub reaches : f source ≡ q

mend_phase : (d x y : ℕ) → 0 < d → Cong (2 * d) (y + neg (2 * d) x + x) y
mend_phase d x y pos = ring₂ d (x ∷ y ∷ []) pos (search quote depth 30) (search quote depth 30) tt

same_entries : (d n : ℕ) {p q : Pauli} → 0 < d → InRange d n p → InRange d n q → number d p ≡ number d q → bare p ≡ bare q
same_entries d n pos a b e = sym (numbered_number d n pos a) ∙ ap (numbered d n) e ∙ numbered_number d n pos b

pub hom_onto : {d n : ℕ} {f : Pauli → Pauli} → 1 < d → Hom d n f → (q : Pauli) → InRange d n q → Source d n f q
hom_onto {d} {n} {f} one m q b = record {
  source = shifted d h (numbered d n z.at);
  source_range = shift_range h pos (numbered_range d n z.at pos);
  reaches = hom_shift pos m h (numbered d n z.at) (numbered_range d n z.at pos) ∙ pauli_path
      ((mend_phase d (f (numbered d n z.at)).phase q.phase pos).same ∙ mod-eq_of_lt b.phase_below)
      (ap (λ (x : Pauli). x.v) s)
      (ap (λ (x : Pauli). x.w) s);
}
  where
    pos : 0 < d
    pos = omega arith

    g : ℕ → ℕ
    g k = number d (f (numbered d n k))

    image_range : (k : ℕ) → InRange d n (f (numbered d n k))
    image_range k = m.range (numbered d n k) (numbered_range d n k pos)

    number_below : {p : Pauli} → InRange d n p → number d p < count d (n + n)
    number_below a = encode_below (n + n) (entries_length a) (append_below a.v_below a.w_below)

    g_apart : Apart g (count d (n + n))
    g_apart = record {
      apart = λ x y l k e.
          sym (number_numbered d n x pos l)
          ∙ ap (number d) (hom_entries one m (numbered d n x) (numbered d n y) (numbered_range d n x pos) (numbered_range d n y pos) (same_entries d n pos (image_range x) (image_range y) e))
          ∙ number_numbered d n y pos k;
    }

    z : Hit g (count d (n + n)) (number d q)
    z = onto (count d (n + n)) g (λ x l. number_below (image_range x)) g_apart (number d q) (number_below b)

    s : bare (f (numbered d n z.at)) ≡ bare q
    s = same_entries d n pos (image_range z.at) b z.hits

    h : ℕ
    h = q.phase + neg (2 * d) (f (numbered d n z.at)).phase
