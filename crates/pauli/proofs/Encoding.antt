-- The layout of a Pauli: its lengths, its parts written one after the other, a Pauli as the answer of a call, and decoding what was encoded. Assumes nothing.
use mathlib.Core.Path.{◌≡◌, refl, sym, ap, ◌∙◌}
use mathlib.Core.List.{List, [], ◌∷◌, ◌++◌, append_assoc}
use Prim.Native.Nat.{ℕ, suc, ◌+◌, ◌*◌, ◌≤◌, ◌<◌}
use native.Mathlib.Nat.{add-zero}
use native.Mathlib.Omega.{arith}
use lib.ListN.{length, get_or, get_or-append, length-append}
use lib.Seq.{sets, get_or-append-add}
use Rattle.arith.specs.Bytes.{tab, number_at, numbers_at, bytes_of, front}
use Rattle.arith.proofs.Bytes.{tab_cons, tab_ext, tab_length, tab_list, tab_append, number_bytes, bytes_length, write_more, write_front}
use Rattle.pauli.specs.Pauli.{Pauli, Below, none, more, InRange}
use Rattle.pauli.specs.Bytes.{pauli_bytes, decode_at, decode, numbers_of, encode}
use Rattle.pauli.specs.Range.{pauli_range_of}
use Rattle.pauli.specs.Inner.View.{at, view}
use Rattle.pauli.specs.declared.Pauli.{Pauli as Code}
use Rattle.pauli.proofs.Lists.{append_below}
use Rattle.pauli.proofs.Ranges.{pauli_path}
use Rattle.pauli.proofs.RangeChecks.{range_good}

-- ---- lengths
pub encode_length : (n : ℕ) (p : Pauli) → length p.v ≡ n → length p.w ≡ n → length (encode p) ≡ pauli_bytes n
encode_length n p ev ew = omega (arith, bytes_length (numbers_of p), length-append p.v p.w)

-- a decoded Pauli has n entries of each kind, so it is in range once 5 is past
pub decode_range : {d n : ℕ} (k : ℕ) (b : List ℕ) → pauli_range_of d (decode_at n k b) ≡ 0 → InRange d n (decode_at n k b)
decode_range {n = n} k b e = range_good (decode_at n k b) (tab_length _ n) (tab_length _ n) e

-- the same of the code's Pauli
pub view_range : {d n : ℕ} (r : Code) → pauli_range_of d (view n r) ≡ 0 → InRange d n (view n r)
view_range {n = n} r e = range_good (view n r) (tab_length (at r.v) n) (tab_length (at r.w) n) e

-- ---- writing
-- a phase, then v, then w
pub write_pauli : (l l1 l2 l3 : List ℕ) (k n h : ℕ) (v w : List ℕ) → length v ≡ n
    → l1 ≡ sets l (2 * k) (bytes_of (h ∷ [])) → l2 ≡ sets l1 (2 * (k + 1)) (bytes_of v) → l3 ≡ sets l2 (2 * (k + 1 + n)) (bytes_of w)
    → l3 ≡ sets l (2 * k) (bytes_of (h ∷ v ++ w))
write_pauli l l1 l2 l3 k n h v w e e1 e2 e3 =
    rw (e3, e2, e1) (ap (λ (z : List ℕ). sets z (2 * (k + 1 + n)) (bytes_of w)) (write_more l k (k + 1) (h ∷ []) v (omega arith)) ∙ write_more l k (k + 1 + n) (h ∷ v) w (omega (arith, e)))

-- an output that has room, once the code's Pauli r is written at its start
pub written_front : (n : ℕ) (old : List ℕ) (r : Code) → pauli_bytes n ≤ length old → sets old 0 (encode (view n r)) ≡ front (encode (view n r)) old
written_front n old r h = write_front old (encode (view n r)) (omega (arith, encode_length n (view n r) (tab_length (at r.v) n) (tab_length (at r.w) n)))

-- the same, where r stands for p
pub write_answer : (n : ℕ) (old new : List ℕ) (r : Code) (p : Pauli) → pauli_bytes n ≤ length old → new ≡ sets old (2 * 0) (encode (view n r)) → view n r ≡ p → new ≡ front (encode p) old
write_answer n old new r p h e q = e ∙ written_front n old r h ∙ ap (λ (z : Pauli). front (encode z) old) q

-- ---- reading what was written
-- the numbers ys among the numbers whose bytes these are, followed by any bytes
pub numbers_bytes : (xs ys zs rest : List ℕ) (k n : ℕ) → k ≡ length xs → n ≡ length ys → numbers_at (bytes_of (xs ++ (ys ++ zs)) ++ rest) k n ≡ ys
numbers_bytes xs ys zs rest k n ek en = tab_ext _ _ n each ∙ ap (tab (λ i. get_or ys i 0)) en ∙ tab_list 0 ys
  where
    each : (i : ℕ) → i < n → number_at (bytes_of (xs ++ (ys ++ zs)) ++ rest) (k + i) ≡ get_or ys i 0
    each i l =
        number_bytes (xs ++ (ys ++ zs)) rest (k + i) (omega (arith, length-append xs (ys ++ zs), length-append ys zs))
        ∙ ap (λ (j : ℕ). get_or (xs ++ (ys ++ zs)) (j + i) 0) ek
        ∙ get_or-append-add xs (ys ++ zs) i 0
        ∙ get_or-append ys zs 0 i (omega arith)

-- the same of a single number
pub number_among : (xs zs rest : List ℕ) (x k : ℕ) → k ≡ length xs → number_at (bytes_of (xs ++ (x ∷ zs)) ++ rest) k ≡ x
number_among xs zs rest x k ek =
    number_bytes (xs ++ (x ∷ zs)) rest k (omega (arith, length-append xs (x ∷ zs)))
    ∙ ap (λ (j : ℕ). get_or (xs ++ (x ∷ zs)) j 0) (ek ∙ sym (add-zero (length xs)))
    ∙ get_or-append-add xs (x ∷ zs) 0 0

-- a Pauli among other numbers
pub decode_at_encode : (n k : ℕ) (p : Pauli) (xs zs rest : List ℕ) → k ≡ length xs → length p.v ≡ n → length p.w ≡ n → decode_at n k (bytes_of (xs ++ (numbers_of p ++ zs)) ++ rest) ≡ p
decode_at_encode n k p xs zs rest ek ev ew = pauli_path
    (number_among xs ((p.v ++ p.w) ++ zs) rest p.phase k ek)
    (ap (λ (l : List ℕ). numbers_at (bytes_of l ++ rest) (k + 1) n) of_v ∙ numbers_bytes (xs ++ (p.phase ∷ [])) p.v (p.w ++ zs) rest (k + 1) n (omega (arith, length-append xs (p.phase ∷ []))) (sym ev))
    (ap (λ (l : List ℕ). numbers_at (bytes_of l ++ rest) (k + 1 + n) n) of_w ∙ numbers_bytes (xs ++ (p.phase ∷ p.v)) p.w zs rest (k + 1 + n) n (omega (arith, length-append xs (p.phase ∷ p.v))) (sym ew))
  where
    of_v : xs ++ (numbers_of p ++ zs) ≡ (xs ++ (p.phase ∷ [])) ++ (p.v ++ (p.w ++ zs))
    of_v = simp append_assoc

    of_w : xs ++ (numbers_of p ++ zs) ≡ (xs ++ (p.phase ∷ p.v)) ++ (p.w ++ zs)
    of_w = simp append_assoc

-- what is encoded and followed by any bytes is decoded again
pub decode_encode : (n : ℕ) (p : Pauli) (rest : List ℕ) → length p.v ≡ n → length p.w ≡ n → decode n (encode p ++ rest) ≡ p
decode_encode n p rest ev ew = ap (λ (l : List ℕ). decode n (bytes_of l ++ rest)) (sym (append_nil (numbers_of p))) ∙ decode_at_encode n 0 p [] [] rest refl ev ew
  where
    append_nil : (l : List ℕ) → l ++ [] ≡ l
    append_nil [] = refl
    append_nil (x ∷ l) = ap (λ (m : List ℕ). x ∷ m) (append_nil l)

-- the numbers of what is decoded are the numbers that stand there
pub numbers_decoded : (n k : ℕ) (b : List ℕ) → numbers_of (decode_at n k b) ≡ numbers_at b k (1 + 2 * n)
numbers_decoded n k b =
    ap (λ (l : List ℕ). number_at b k ∷ l) (ap (λ (l : List ℕ). numbers_at b (k + 1) n ++ l) (tab_ext _ _ n (λ i l. at_number (omega arith))) ∙ sym (tab_append (λ i. number_at b (k + 1 + i)) n n) ∙ tab_ext _ _ (n + n) (λ i l. at_number (omega arith)))
    ∙ ap (λ (x : ℕ). x ∷ tab (λ i. number_at b (k + suc i)) (n + n)) (at_number (omega arith))
    ∙ sym (tab_cons (λ i. number_at b (k + i)) (n + n))
    ∙ ap (λ (m : ℕ). numbers_at b k m) (omega arith)
  where
    at_number : {i j : ℕ} → i ≡ j → number_at b i ≡ number_at b j
    at_number e = ap (number_at b) e

-- ---- each number in two bytes, where it is below 65,536
pub bytes_below : {xs : List ℕ} → Below 65536 xs → Below 256 (bytes_of xs)
unfolding bytes_of
bytes_below none = none
bytes_below (more l b) = more (omega arith) (more (omega (arith, l)) (bytes_below b))

pub numbers_below : {d n : ℕ} {p : Pauli} → 2 * d ≤ 65536 → InRange d n p → Below 65536 (numbers_of p)
numbers_below {d} h a = more (omega (arith, a.phase_below)) (append_below (widened a.v_below) (widened a.w_below))
  where
    widened : {xs : List ℕ} → Below d xs → Below 65536 xs
    widened none = none
    widened (more l b) = more (omega arith) (widened b)
