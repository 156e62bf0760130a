-- A tableau in bytes: where its columns stand, what is decoded, that either way leads back, and what a loop has written that writes column after column. Assumes nothing.
use mathlib.Core.Path.{◌≡◌, refl, sym, ap, ◌∙◌}
use mathlib.Core.List.{List, [], ◌∷◌, ◌++◌, append_assoc, append-nil}
use Prim.Native.Nat.{ℕ, zero, suc, ◌+◌, ◌*◌, ◌≤◌, ◌<◌}
use native.Mathlib.Nat.{mul-le-mul, le_refl}
use native.Mathlib.Omega.{arith}
use lib.ListN.{length, take, drop, length-append}
use lib.Seq.{sets, length-sets, split_at, length-take-le}
use Rattle.arith.specs.Bytes.{tab, number_at, bytes_of, front}
use Rattle.arith.proofs.Bytes.{tab_none, tab_more, tab_length, tab_ext, tab_list, tab_append, bytes_length, bytes_numbers, write_more, write_front}
use Rattle.arith.proofs.Refusals.{or_else_none}
use Rattle.arith.proofs.Passes.{both_pass}
use Rattle.pauli.specs.Pauli.{Pauli, Below, none, InRange, phase_only}
use Rattle.pauli.specs.Bytes.{decode_at, numbers_of, encode}
use Rattle.pauli.specs.declared.Pauli.{Pauli as Code}
use Rattle.pauli.specs.Inner.View.{at, entries, view}
use Rattle.pauli.specs.Range.{pauli_range_of}
use Rattle.pauli.proofs.Lists.{get_d_below, append_below}
use Rattle.pauli.proofs.Ranges.{entries_length}
use Rattle.pauli.proofs.RangeChecks.{pauli_passes}
use Rattle.pauli.proofs.Encoding.{decode_range, decode_at_encode, numbers_decoded, numbers_below, bytes_below}
use Rattle.tableau.specs.Tableau.{column, AllInRange, none, more, WellFormed}
use Rattle.tableau.specs.Bytes.{tableau_bytes, column_at, decode_tableau, tableau_numbers, encode_tableau}
use Rattle.tableau.specs.Range.{tableau_range_of}
use Rattle.tableau.proofs.Columns.{column_range}

-- ---- where column j of m stands
pub column_inside : (n m j : ℕ) → j < m → 2 * (j * (1 + 2 * n) + 1 + 2 * n) ≤ 2 * (m * (1 + 2 * n))
column_inside n m j h = omega (arith, mul-le-mul h (le_refl (1 + 2 * n)))

-- ---- where column j stands, and how long a tableau is
pub column_small : (n j : ℕ) → n ≤ 16 → j ≤ 32 → j * (1 + 2 * n) ≤ 1056
column_small n j h l = let k : 1 + 2 * n ≤ 33 = omega arith in omega (arith, mul-le-mul l k)

pub tableau_small : (n : ℕ) → n ≤ 16 → tableau_bytes n ≤ 2112
tableau_small n h = omega (arith, column_small n (2 * n) h (omega arith))

-- ---- decoding
pub decode_length : (n : ℕ) (b : List ℕ) → length (decode_tableau n b) ≡ 2 * n
unfolding decode_tableau
decode_length n b = tab_length (λ j. column_at n j b) (2 * n)

pub decode_table : (n : ℕ) (b : List ℕ) → decode_tableau n b ≡ tab (λ j. column_at n j b) (2 * n)
unfolding decode_tableau
decode_table n b = refl

-- what is decoded has 2n columns of n entries of each kind, so it is well formed once 5 is past
pub ranges_good : {d n : ℕ} (f : ℕ → ℕ) (b : List ℕ) (m : ℕ) → tableau_range_of d (tab (λ j. decode_at n (f j) b) m) ≡ 0 → AllInRange d n (tab (λ j. decode_at n (f j) b) m)
unfolding tab tableau_range_of
ranges_good f b zero e = none
ranges_good {d} {n} f b (suc m) e =
    let z = or_else_none (pauli_range_of d (decode_at n (f 0) b)) _ e in
    more (decode_range (f 0) b z.0) (ranges_good (λ j. f (suc j)) b m z.1)

pub decode_formed : {d n : ℕ} (b : List ℕ) → tableau_range_of d (decode_tableau n b) ≡ 0 → WellFormed d n (decode_tableau n b)
unfolding decode_tableau
decode_formed {n = n} b e = record { columns = decode_length n b; ranges = ranges_good (λ j. j * (1 + 2 * n)) b (2 * n) e }

-- and every tableau in range passes 5
pub ranges_pass : {d n : ℕ} {t : List Pauli} → AllInRange d n t → tableau_range_of d t ≡ 0
unfolding tableau_range_of
ranges_pass none = refl
ranges_pass (more r rs) = both_pass (pauli_passes r) (ranges_pass rs)

-- ---- the numbers of columns
pub numbers_length : {d n : ℕ} {p : Pauli} → InRange d n p → length (numbers_of p) ≡ 1 + 2 * n
numbers_length r = omega (arith, entries_length r)

pub all_length : {d n : ℕ} {t : List Pauli} → AllInRange d n t → length (tableau_numbers t) ≡ length t * (1 + 2 * n)
all_length {n = n} none = omega arith
all_length {n = n} (more {c = c} {cs = cs} r rs) = length-append (numbers_of c) (tableau_numbers cs) ∙ omega (arith, numbers_length r, all_length rs)

pub numbers_tableau : {d n : ℕ} {t : List Pauli} → WellFormed d n t → length (tableau_numbers t) ≡ 2 * n * (1 + 2 * n)
numbers_tableau {n = n} g = all_length g.ranges ∙ ap (λ (m : ℕ). m * (1 + 2 * n)) g.columns

-- ---- what is encoded, and followed by any bytes, is decoded again
numbers_append : (t u : List Pauli) → tableau_numbers (t ++ u) ≡ tableau_numbers t ++ tableau_numbers u
numbers_append [] u = refl
numbers_append (c ∷ t) u = ap (λ (l : List ℕ). numbers_of c ++ l) (numbers_append t u) ∙ sym (append_assoc (numbers_of c) (tableau_numbers t) (tableau_numbers u))

take_range : {d n : ℕ} {t : List Pauli} (j : ℕ) → AllInRange d n t → AllInRange d n (take j t)
take_range zero rs = none
take_range (suc j) none = none
take_range (suc j) (more r rs) = more r (take_range j rs)

-- column j among the others
column_encode : {d n : ℕ} {t : List Pauli} (rest : List ℕ) (j : ℕ) → 0 < d → AllInRange d n t → j < length t → column_at n j (bytes_of (tableau_numbers t) ++ rest) ≡ column n t j
column_encode {d} {n} {t} rest j pos rs h =
    ap (λ (l : List ℕ). column_at n j (bytes_of l ++ rest)) (ap tableau_numbers (split_at t j (phase_only n 0) h) ∙ numbers_append (take j t) (column n t j ∷ drop (suc j) t))
    ∙ decode_at_encode n (j * (1 + 2 * n)) (column n t j) (tableau_numbers (take j t)) (tableau_numbers (drop (suc j) t)) rest before c.v_length c.w_length
  where
    c : InRange d n (column n t j)
    c = column_range j pos rs

    before : j * (1 + 2 * n) ≡ length (tableau_numbers (take j t))
    before = sym (all_length (take_range j rs) ∙ ap (λ (m : ℕ). m * (1 + 2 * n)) (length-take-le j t (omega arith)))

pub decode_encode : {d n : ℕ} {t : List Pauli} (rest : List ℕ) → 0 < d → WellFormed d n t → decode_tableau n (encode_tableau t ++ rest) ≡ t
unfolding decode_tableau encode_tableau
decode_encode {n = n} {t} rest pos g =
    tab_ext _ (column n t) (2 * n) (λ j l. column_encode rest j pos g.ranges (omega (arith, g.columns)))
    ∙ ap (tab (column n t)) (sym g.columns) ∙ tab_list (phase_only n 0) t

-- ---- and what is decoded is encoded again to the bytes that it stood in, where they are bytes, as many as the layout says
numbers_table : (n : ℕ) (b : List ℕ) (m : ℕ) → tableau_numbers (tab (λ j. column_at n j b) m) ≡ tab (number_at b) (m * (1 + 2 * n))
numbers_table n b zero = ap tableau_numbers (tab_none (λ j. column_at n j b)) ∙ sym (tab_none (number_at b)) ∙ ap (tab (number_at b)) (omega arith)
numbers_table n b (suc m) =
    ap (λ (k : ℕ). tableau_numbers (tab column_of k)) (omega arith)
    ∙ ap tableau_numbers (tab_more column_of m)
    ∙ numbers_append (tab column_of m) (column_of m ∷ [])
    ∙ (λ k. numbers_table n b m k ++ (append-nil (numbers_of (column_of m)) ∙ numbers_decoded n (m * (1 + 2 * n)) b) k)
    ∙ sym (tab_append (number_at b) (m * (1 + 2 * n)) (1 + 2 * n))
    ∙ ap (tab (number_at b)) (omega arith)
  where
    column_of : ℕ → Pauli
    column_of j = column_at n j b

pub encode_decode : (n : ℕ) (b : List ℕ) → length b ≡ tableau_bytes n → Below 256 b → encode_tableau (decode_tableau n b) ≡ b
unfolding decode_tableau encode_tableau
encode_decode n b size below = ap bytes_of (numbers_table n b (2 * n)) ∙ bytes_numbers b (2 * n * (1 + 2 * n)) size (λ i. get_d_below i (omega arith) below)

-- what is encoded are bytes, where every number is below 65,536
pub encode_below : {d n : ℕ} {t : List Pauli} → 2 * d ≤ 65536 → AllInRange d n t → Below 256 (encode_tableau t)
unfolding encode_tableau
encode_below {d} {n} h rs = bytes_below (all_below rs)
  where
    all_below : {t : List Pauli} → AllInRange d n t → Below 65536 (tableau_numbers t)
    all_below none = none
    all_below (more r rs) = append_below (numbers_below h r) (all_below rs)

-- ---- writing
-- a Pauli of the code has 1 + 2n numbers
pub view_length : (n : ℕ) (q : Code) → length (numbers_of (view n q)) ≡ 1 + 2 * n
view_length n q = omega (arith, length-append (entries n q.v) (entries n q.w), tab_length (at q.v) n, tab_length (at q.w) n)

-- what a loop that writes the Paulis g 0, g 1, .. has made of the output after j of them
pub record PaulisWritten (n : ℕ) (g : ℕ → Pauli) (old new : List ℕ) (j : ℕ) : Type 0 where
  pub size : length new ≡ length old
  pub numbers : length (tableau_numbers (tab g j)) ≡ j * (1 + 2 * n)
  pub bytes : new ≡ sets old (2 * 0) (encode_tableau (tab g j))

-- before the first
pub paulis_none : (n : ℕ) (g : ℕ → Pauli) (old : List ℕ) → PaulisWritten n g old old 0
unfolding encode_tableau bytes_of
paulis_none n g old = record { size = refl; numbers = rw (tab_none g) (omega arith); bytes = rw (tab_none g) refl }

-- after Pauli j
pub paulis_next : (n : ℕ) (g : ℕ → Pauli) {old new next : List ℕ} (j : ℕ) {q : Pauli} → length (numbers_of q) ≡ 1 + 2 * n → q ≡ g j → PaulisWritten n g old new j
    → next ≡ sets new (2 * (j * (1 + 2 * n))) (encode q) → PaulisWritten n g old next (j + 1)
unfolding encode_tableau
paulis_next n g {old} {new} {next} j {q} h e w p = record {
  size = ap length p ∙ length-sets new (2 * (j * (1 + 2 * n))) (encode q) ∙ w.size;
  numbers = ap length (sym one_more) ∙ length-append (tableau_numbers (tab g j)) (numbers_of (g j)) ∙ omega (arith, w.numbers, rw e at h);
  bytes =
      p
      ∙ rw (w.bytes, e) (write_more old 0 (j * (1 + 2 * n)) (tableau_numbers (tab g j)) (numbers_of (g j)) (omega (arith, w.numbers)) ∙ ap (λ (z : List ℕ). sets old (2 * 0) (bytes_of z)) one_more);
}
  where
    one_more : tableau_numbers (tab g j) ++ numbers_of (g j) ≡ tableau_numbers (tab g (j + 1))
    one_more = ap (λ (z : List ℕ). tableau_numbers (tab g j) ++ z) (sym (append-nil (numbers_of (g j)))) ∙ sym (numbers_append (tab g j) (g j ∷ [])) ∙ ap tableau_numbers (sym (tab_more g j))

-- after the last of m: all of them at the front of an output that has room
pub paulis_all : (n m : ℕ) (g : ℕ → Pauli) {old new : List ℕ} {j : ℕ} → j ≡ m → 2 * (m * (1 + 2 * n)) ≤ length old → PaulisWritten n g old new j → new ≡ front (encode_tableau (tab g m)) old
unfolding encode_tableau
paulis_all n m g {old} {j = j} e room w =
    w.bytes
    ∙ ap (λ (i : ℕ). sets old (2 * 0) (bytes_of (tableau_numbers (tab g i)))) e
    ∙ write_front old (bytes_of (tableau_numbers (tab g m))) (omega (arith, bytes_length (tableau_numbers (tab g m)), rw e at w.numbers))

-- ---- the same of a table of columns that have 1 + 2n numbers each
-- columns of 1 + 2n numbers each
columns_length : (n : ℕ) (g : ℕ → Pauli) (m : ℕ) → ((i : ℕ) → length (numbers_of (g i)) ≡ 1 + 2 * n) → length (tableau_numbers (tab g m)) ≡ m * (1 + 2 * n)
unfolding tab
columns_length n g zero h = omega arith
columns_length n g (suc m) h = length-append (numbers_of (g 0)) (tableau_numbers (tab (λ i. g (suc i)) m)) ∙ omega (arith, h 0, columns_length n (λ i. g (suc i)) m (λ i. h (suc i)))

-- what a loop that writes the columns g 0, g 1, .. has made of the output after j of them
pub record ColumnsWritten (g : ℕ → Pauli) (old new : List ℕ) (j : ℕ) : Type 0 where
  pub size : length new ≡ length old
  pub bytes : new ≡ sets old (2 * 0) (encode_tableau (tab g j))

-- before the first
pub columns_none : (g : ℕ → Pauli) (old : List ℕ) → ColumnsWritten g old old 0
unfolding encode_tableau bytes_of
columns_none g old = record { size = refl; bytes = rw (tab_none g) refl }

-- as many numbers as columns of this length have: so it is what a loop over Paulis has made
columns_paulis : (n : ℕ) (g : ℕ → Pauli) {old new : List ℕ} {j : ℕ} → ((i : ℕ) → length (numbers_of (g i)) ≡ 1 + 2 * n) → ColumnsWritten g old new j → PaulisWritten n g old new j
columns_paulis n g {j = j} h w = record { size = w.size; numbers = columns_length n g j h; bytes = w.bytes }

-- after column j
pub columns_next : (n : ℕ) (g : ℕ → Pauli) {old new next : List ℕ} (j : ℕ) {q : Pauli} → ((i : ℕ) → length (numbers_of (g i)) ≡ 1 + 2 * n) → q ≡ g j
    → ColumnsWritten g old new j → next ≡ sets new (2 * (j * (1 + 2 * n))) (encode q) → ColumnsWritten g old next (j + 1)
columns_next n g j h e w p = let z = paulis_next n g j (rw e (h j)) e (columns_paulis n g h w) p in record { size = z.size; bytes = z.bytes }

-- after the last of m: all of them at the front of an output that has room
pub columns_all : (n m : ℕ) {t : List Pauli} (g : ℕ → Pauli) {old new : List ℕ} {j : ℕ} → j ≡ m → t ≡ tab g m → ((i : ℕ) → length (numbers_of (g i)) ≡ 1 + 2 * n) → 2 * (m * (1 + 2 * n)) ≤ length old → ColumnsWritten g old new j → new ≡ front (encode_tableau t) old
columns_all n m g {old} e table h room w = paulis_all n m g e room (columns_paulis n g h w) ∙ ap (λ (z : List Pauli). front (encode_tableau z) old) (sym table)
