-- The reversal of rows in place: rows in bytes are swapped, and half as many swaps as there are rows reverse them. Assumes nothing.
use mathlib.Core.Path.{◌≡◌, refl, sym, ◌∙◌, ap}
use mathlib.Core.List.{List, [], ◌∷◌, ◌++◌, reverse, reverse-cons}
use mathlib.Core.Logic.{◌≢◌}
use Prim.Native.Nat.{ℕ, zero, suc, ◌+◌, ◌*◌, ◌-◌, ◌/◌, ◌≤◌, ◌<◌}
use native.Mathlib.Nat.{le_of_suc-le-suc, not-suc-le-zero}
use native.Mathlib.Numerals.{add-one}
use native.Mathlib.Omega.{arith}
use lib.ListN.{length, get_or, set, length-set, length-reverse, get_or-append}
use lib.Seq.{sets, ext_get_or, get_or-set_same, get_or-set_other, get_or-append_seam}
use Rattle.arith.specs.Bytes.{bytes_of}
use Rattle.arith.proofs.Cases.{by_eq, by_less}
use Rattle.gates.specs.Written.{WrittenRow, row_at, list_numbers, encode_rows}
use Rattle.gates.proofs.Written.{row_encoded}

-- ---- the reversal as the program does it: the first row with the last, the second with the last but one, and so on
-- no row, where a list has none to look at
abbrev no_row : WrittenRow
no_row = record { kind = 0; first = 0; second = 0; power = 0 }

abbrev swapped : List WrittenRow → ℕ → ℕ → List WrittenRow
swapped ws a b = set (set ws a (get_or ws b no_row)) b (get_or ws a no_row)

-- after r swaps
unfoldable pub turned : List WrittenRow → ℕ → List WrittenRow
turned ws zero = ws
turned ws (suc r) = swapped (turned ws r) r (length ws - 1 - r)

-- ---- a row of rows in bytes is written anew
sets_cons : (x : ℕ) (l : List ℕ) (i : ℕ) (vs : List ℕ) → sets (x ∷ l) (suc i) vs ≡ x ∷ sets l i vs
sets_cons x l i [] = refl
sets_cons x l i (v ∷ vs) = sets_cons x (set l i v) (suc i) vs

sets_skip : (p l : List ℕ) (i : ℕ) (vs : List ℕ) → sets (p ++ l) (length p + i) vs ≡ p ++ sets l i vs
sets_skip [] l i vs = ap (λ (k : ℕ). sets l k vs) (omega arith)
sets_skip (x ∷ p) l i vs = let e : suc (length p) + i ≡ suc (length p + i) = omega arith in rw e (sets_cons x (p ++ l) (length p + i) vs ∙ ap (λ (z : List ℕ). x ∷ z) (sets_skip p l i vs))

set_row : (ws : List WrittenRow) (rest : List ℕ) (k : ℕ) (x : WrittenRow) → k < length ws → sets (encode_rows ws ++ rest) (8 * k) (encode_rows (x ∷ [])) ≡ encode_rows (set ws k x) ++ rest
unfolding list_numbers bytes_of
set_row [] rest k x h = absurd (not-suc-le-zero h)
set_row (w ∷ ws) rest zero x h = refl
set_row (w ∷ ws) rest (suc k) x h =
    let e : 8 * suc k ≡ length (encode_rows (w ∷ [])) + 8 * k = omega arith in
    rw e (sets_skip (encode_rows (w ∷ [])) (encode_rows ws ++ rest) (8 * k) (encode_rows (x ∷ [])) ∙ ap (λ (l : List ℕ). encode_rows (w ∷ []) ++ l) (set_row ws rest k x (le_of_suc-le-suc h)))

-- a row of them is read
-- two rows written
pub write_two : (a b : ℕ) (out : List ℕ) {one two : List ℕ} {x y x' y' : WrittenRow} → one ≡ sets out (8 * a) (encode_rows (y ∷ [])) → two ≡ sets one (8 * b) (encode_rows (x ∷ [])) → x ≡ x' → y ≡ y'
    → two ≡ sets (sets out (8 * a) (encode_rows (y' ∷ []))) (8 * b) (encode_rows (x' ∷ []))
write_two a b out {one} {two} {x} {y} {x'} {y'} e f p q =
    f ∙ ap (λ (l : List ℕ). sets l (8 * b) (encode_rows (x ∷ []))) (e ∙ ap (λ (w : WrittenRow). sets out (8 * a) (encode_rows (w ∷ []))) q)
    ∙ ap (λ (w : WrittenRow). sets (sets out (8 * a) (encode_rows (y' ∷ []))) (8 * b) (encode_rows (w ∷ []))) p

-- two rows swapped
swap_rows : (ws : List WrittenRow) (rest : List ℕ) (a b : ℕ) {old new : List ℕ} → a < length ws → b < length ws → old ≡ encode_rows ws ++ rest
    → new ≡ sets (sets old (8 * a) (encode_rows (row_at old b ∷ []))) (8 * b) (encode_rows (row_at old a ∷ [])) → new ≡ encode_rows (swapped ws a b) ++ rest
swap_rows ws rest a b {old} {new} ha hb e f =
    f
    ∙ ap (λ (w : WrittenRow). sets (sets old (8 * a) (encode_rows (row_at old b ∷ []))) (8 * b) (encode_rows (w ∷ []))) (at a ha)
    ∙ ap (λ (w : WrittenRow). sets (sets old (8 * a) (encode_rows (w ∷ []))) (8 * b) (encode_rows (get_or ws a no_row ∷ []))) (at b hb)
    ∙ ap (λ (l : List ℕ). sets (sets l (8 * a) (encode_rows (get_or ws b no_row ∷ []))) (8 * b) (encode_rows (get_or ws a no_row ∷ []))) e
    ∙ ap (λ (l : List ℕ). sets l (8 * b) (encode_rows (get_or ws a no_row ∷ []))) (set_row ws rest a (get_or ws b no_row) ha)
    ∙ set_row (set ws a (get_or ws b no_row)) rest b (get_or ws a no_row) (omega (arith, length-set ws a (get_or ws b no_row)))
  where
    at : (k : ℕ) → k < length ws → row_at old k ≡ get_or ws k no_row
    at k h = ap (λ (l : List ℕ). row_at l k) e ∙ row_encoded ws rest no_row k h

-- ---- the swaps
turned_length : (ws : List WrittenRow) (r : ℕ) → length (turned ws r) ≡ length ws
unfolding turned
turned_length ws zero = refl
turned_length ws (suc r) = length-set (set (turned ws r) r _) (length ws - 1 - r) _ ∙ length-set (turned ws r) r _ ∙ turned_length ws r

pub turned_none : (ws : List WrittenRow) → turned ws 0 ≡ ws
unfolding turned
turned_none ws = refl

turned_more : (ws : List WrittenRow) (r : ℕ) → swapped (turned ws r) r (length ws - 1 - r) ≡ turned ws (r + 1)
unfolding turned
turned_more ws r = rw (add-one r)

-- the loop: one swap more
pub turned_next : (ws : List WrittenRow) (rest : List ℕ) (count r : ℕ) {old new : List ℕ} → length ws ≡ count → r < count / 2 → old ≡ encode_rows (turned ws r) ++ rest
    → new ≡ sets (sets old (8 * r) (encode_rows (row_at old (count - 1 - r) ∷ []))) (8 * (count - 1 - r)) (encode_rows (row_at old r ∷ [])) → new ≡ encode_rows (turned ws (r + 1)) ++ rest
turned_next ws rest count r {old} {new} e l p f =
    swap_rows (turned ws r) rest r (count - 1 - r) (omega (arith, turned_length ws r)) (omega (arith, turned_length ws r)) p f
    ∙ ap (λ (m : ℕ). encode_rows (swapped (turned ws r) r (m - 1 - r)) ++ rest) (sym e)
    ∙ ap (λ (l : List WrittenRow). encode_rows l ++ rest) (turned_more ws r)

-- the rows inside are where they were, the others mirrored
record Mirrored (ws : List WrittenRow) (r : ℕ) : Type 0 where
  inside : (i : ℕ) → r ≤ i → i + r < length ws → get_or (turned ws r) i no_row ≡ get_or ws i no_row
  before : (i : ℕ) → i < r → get_or (turned ws r) i no_row ≡ get_or ws (length ws - 1 - i) no_row
  after : (i : ℕ) → i < length ws → length ws ≤ i + r → get_or (turned ws r) i no_row ≡ get_or ws (length ws - 1 - i) no_row

module _ (l : List WrittenRow) (a b : ℕ) (ha : a < length l) (hb : b < length l) where
  swapped_b : get_or (swapped l a b) b no_row ≡ get_or l a no_row
  swapped_b = get_or-set_same (set l a (get_or l b no_row)) b (get_or l a no_row) no_row (omega (arith, length-set l a (get_or l b no_row)))

  swapped_a : a ≢ b → get_or (swapped l a b) a no_row ≡ get_or l b no_row
  swapped_a ne = get_or-set_other (set l a (get_or l b no_row)) b a (get_or l a no_row) no_row ne ∙ get_or-set_same l a (get_or l b no_row) no_row ha

  swapped_other : (i : ℕ) → i ≢ a → i ≢ b → get_or (swapped l a b) i no_row ≡ get_or l i no_row
  swapped_other i na nb = get_or-set_other (set l a (get_or l b no_row)) b i (get_or l a no_row) no_row nb ∙ get_or-set_other l a i (get_or l b no_row) no_row na

mirrored : (ws : List WrittenRow) (r : ℕ) → r + r ≤ length ws → Mirrored ws r
unfolding turned
mirrored ws zero h = record { inside = λ i l m. refl; before = λ i l. absurd (omega arith); after = λ i l m. absurd (omega arith) }
mirrored ws (suc r) h =
    let n = length ws in
    let b = n - 1 - r in
    let t = turned ws r in
    let m = mirrored ws r (omega arith) in
    let ha : r < length t = omega (arith, turned_length ws r) in
    let hb : b < length t = omega (arith, turned_length ws r) in
    let other = swapped_other t r b ha hb in
    record {
      inside = λ i l k. other i (λ (e : i ≡ r). omega arith) (λ (e : i ≡ b). omega arith) ∙ m.inside i (omega arith) (omega arith);
      before = λ i l. by_eq i r
          (λ e. ap (λ (j : ℕ). get_or (swapped t r b) j no_row) e ∙ swapped_a t r b ha hb (λ (q : r ≡ b). omega arith) ∙ m.inside b (omega arith) (omega arith) ∙ ap (λ (j : ℕ). get_or ws (n - 1 - j) no_row) (sym e))
          (λ ne. other i ne (λ (e : i ≡ b). omega arith) ∙ m.before i (omega arith));
      after = λ i l k. by_eq i b
          (λ e. ap (λ (j : ℕ). get_or (swapped t r b) j no_row) e ∙ swapped_b t r b ha hb ∙ m.inside r (omega arith) (omega arith) ∙ ap (λ (j : ℕ). get_or ws j no_row) (back i e))
          (λ ne. other i (λ (e : i ≡ r). omega arith) ne ∙ m.after i l (omega arith));
    }
  where
    back : (i : ℕ) → i ≡ length ws - 1 - r → r ≡ length ws - 1 - i
    back i e = omega arith

reverse_at : (ws : List WrittenRow) (i : ℕ) → i < length ws → get_or (reverse ws) i no_row ≡ get_or ws (length ws - 1 - i) no_row
reverse_at [] i h = absurd (not-suc-le-zero h)
reverse_at (w ∷ ws) i h = ap (λ (l : List WrittenRow). get_or l i no_row) (reverse-cons w ws) ∙ by_less i (length ws)
    (λ l. let e : suc (length ws) - 1 - i ≡ suc (length ws - 1 - i) = omega arith in
    get_or-append (reverse ws) (w ∷ []) no_row i (omega (arith, length-reverse ws)) ∙ reverse_at ws i l ∙ ap (λ (j : ℕ). get_or (w ∷ ws) j no_row) (sym e))
    (λ l. let e : i ≡ length (reverse ws) = omega (arith, length-reverse ws) in
    let q : suc (length ws) - 1 - i ≡ 0 = omega arith in
    ap (λ (j : ℕ). get_or (reverse ws ++ (w ∷ [])) j no_row) e ∙ get_or-append_seam (reverse ws) w [] no_row ∙ ap (λ (j : ℕ). get_or (w ∷ ws) j no_row) (sym q))

-- half as many swaps as there are rows
pub turned_reverse : (ws : List WrittenRow) → turned ws (length ws / 2) ≡ reverse ws
turned_reverse ws = ext_get_or no_row (turned ws (length ws / 2)) (reverse ws) (turned_length ws (length ws / 2) ∙ sym (length-reverse ws)) (λ i l. at i (omega (arith, turned_length ws (length ws / 2))) ∙ sym (reverse_at ws i (omega (arith, turned_length ws (length ws / 2)))))
  where
    at : (i : ℕ) → i < length ws → get_or (turned ws (length ws / 2)) i no_row ≡ get_or ws (length ws - 1 - i) no_row
    at i l =
        let m = mirrored ws (length ws / 2) (omega arith) in
        by_less i (length ws / 2) (λ k. m.before i k) (λ k. by_less (i + length ws / 2) (length ws)
        (λ k'. m.inside i k k' ∙ ap (λ (j : ℕ). get_or ws j no_row) (omega arith))
        (λ k'. m.after i l k'))
