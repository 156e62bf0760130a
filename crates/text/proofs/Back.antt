-- What a caller makes of the reader's answer and buffer. Assumes nothing.
use mathlib.Core.Path.{◌≡◌, refl, sym, ap, ap₂, ◌∙◌}
use mathlib.Core.Bool.{Bool, true}
use Rattle.std.specs.Prelude.{Option, None, Some}
use mathlib.Core.List.{List, [], ◌∷◌, ◌++◌, append_assoc}
use Prim.Native.Nat.{ℕ, ◌≤◌, suc, ◌+◌, ◌*◌, ◌/◌, ◌%◌}
use native.Mathlib.Nat.{zero-mul, zero-add, suc-add}
use native.Mathlib.Omega.{arith}
use lib.Dec.{eqb}
use lib.ListN.{length, get_or, drop, length-append, length-drop}
use borrow.Author.Tests.{eqb-true}
use Rattle.arith.specs.Bytes.{tab, number_at, bytes_of, front, numbers_at}
use Rattle.arith.proofs.Bytes.{bytes_append, bytes_length, number_bytes, tab_ext, tab_list}
use Rattle.arith.proofs.Refusals.{both_held}
use Rattle.gates.specs.Written.{WrittenRow, row_numbers, row_at, list_numbers}
use Rattle.gates.proofs.Written.{list_numbers_length, rows_encoded}
use Rattle.text.specs.Format.{File, tableau_file, list_file, partner_file, concatenated, LaidOut}
use Rattle.text.specs.Convert.{full_columns}
use Rattle.text.specs.Inner.Reads.{file_numbers, reading_of, Reads, ColumnsRead, RowsRead}
use Rattle.text.specs.Inner.Prints.{columns_at, tableau_file_of, list_file_of}
use Rattle.text.specs.declared.reading.Contents.{Contents}
use Rattle.text.specs.declared.reading.Contents.TheVariants.{Tableau, Rows, PartnerRows}
use Rattle.text.proofs.Unique.{one_file}

-- the columns, as they are counted
abbrev counted_as : ℕ → ℕ → ℕ → Bool → Contents
counted_as d n lines full = Tableau (record { d = d; n = n; lines = lines; full = full })

-- the answer is that of the one file that is laid out so
pub reads_one : (text before : List ℕ) (r : Option Contents) (out : List ℕ) (f : File) → Reads text before r out → LaidOut text f
    → (r ≡ Some (reading_of f)) × (out ≡ front (bytes_of (file_numbers f)) before)
reads_one text before None out f h laid = absurd (h f laid)
reads_one text before (Some (Tableau c)) out f h laid =
    let e = one_file text (tableau_file c.d c.n h.columns) f h.laid laid in
    (ap₂ (λ (k : ℕ) (t : Bool). Some (counted_as c.d c.n k t)) h.counted h.sized ∙ ap (λ (g : File). Some (reading_of g)) e, h.holds ∙ ap (λ (g : File). front (bytes_of (file_numbers g)) before) e)
reads_one text before (Some (Rows r)) out f h laid =
    let e = one_file text (list_file r.d r.n h.rows) f h.laid laid in
    (ap (λ (k : ℕ). Some (Rows (record { d = r.d; n = r.n; lines = k }))) h.counted ∙ ap (λ (g : File). Some (reading_of g)) e, h.holds ∙ ap (λ (g : File). front (bytes_of (file_numbers g)) before) e)
reads_one text before (Some (PartnerRows r)) out f h laid =
    let e = one_file text (partner_file r.d r.n h.rows) f h.laid laid in
    (ap (λ (k : ℕ). Some (PartnerRows (record { d = r.d; n = r.n; lines = k }))) h.counted ∙ ap (λ (g : File). Some (reading_of g)) e, h.holds ∙ ap (λ (g : File). front (bytes_of (file_numbers g)) before) e)

-- ---- how many numbers there are
pub full_length : (n : ℕ) (cs : List (List ℕ)) → full_columns n cs ≡ true → length (concatenated (λ (c : List ℕ). c) cs) ≡ length cs * (1 + 2 * n)
unfolding full_columns concatenated
full_length n [] e = sym (zero-mul (1 + 2 * n))
full_length n (c ∷ cs) e =
    let both = both_held (eqb (length c) (1 + 2 * n)) (full_columns n cs) e in
    omega (arith, eqb-true (length c) (1 + 2 * n) both.0, full_length n cs both.1, length-append c (concatenated (λ (c : List ℕ). c) cs))

-- the numbers of rows are gates'
pub rows_concatenated : (rows : List WrittenRow) → concatenated row_numbers rows ≡ list_numbers rows
unfolding concatenated list_numbers
rows_concatenated [] = refl
rows_concatenated (w ∷ ws) = ap (λ (l : List ℕ). row_numbers w ++ l) (rows_concatenated ws)

pub rows_length : (rs : List WrittenRow) → length (concatenated row_numbers rs) ≡ 4 * length rs
rows_length rs = ap length (rows_concatenated rs) ∙ list_numbers_length rs

-- ---- the buffer is long enough for them
front_room : (a before out : List ℕ) → out ≡ front a before → length out ≡ length before → length a ≤ length before
front_room a before out e h = omega (arith, ap length e, h, length-append a (drop (length a) before), length-drop (length a) before)

pub rows_room : (file : ℕ → ℕ → List WrittenRow → File) (text before : List ℕ) (d n lines : ℕ) (out : List ℕ) → RowsRead file text before d n lines out → length out ≡ length before → 8 * lines ≤ length out
rows_room file text before d n lines out r h =
    let all : List ℕ = concatenated row_numbers r.rows in
    omega (arith, h, front_room (bytes_of all) before out r.holds h, bytes_length all, rows_length r.rows, r.counted)

pub columns_room : (text before : List ℕ) (d n lines : ℕ) (out : List ℕ) → ColumnsRead text before d n lines true out → length out ≡ length before → 2 * (lines * (1 + 2 * n)) ≤ length out
columns_room text before d n lines out r h =
    let all : List ℕ = concatenated (λ (c : List ℕ). c) r.columns in
    rw r.counted (omega (arith, h, front_room (bytes_of all) before out r.holds h, bytes_length all, full_length n r.columns (sym r.sized)))

-- ---- the numbers in the bytes
word_next : (x : ℕ) (b : List ℕ) (k : ℕ) → number_at (x % 256 ∷ x / 256 ∷ b) (suc k) ≡ number_at b k
unfolding number_at
word_next x b k =
    let e : 2 * suc k ≡ suc (suc (2 * k)) = omega arith in
    let f : 2 * suc k + 1 ≡ suc (suc (2 * k + 1)) = omega arith in
    rw (f, e)

word_past : (xs b : List ℕ) (i : ℕ) → number_at (bytes_of xs ++ b) (length xs + i) ≡ number_at b i
unfolding bytes_of
word_past [] b i = rw zero-add
word_past (x ∷ xs) b i = rw suc-add (word_next x (bytes_of xs ++ b) (length xs + i) ∙ word_past xs b i)

-- ---- what was read, read from the bytes again
column_first : (m : ℕ) (c b : List ℕ) → length c ≡ m → numbers_at (bytes_of c ++ b) (0 * m) m ≡ c
column_first m c b e =
    rw (← e) (tab_ext (λ i. number_at (bytes_of c ++ b) (0 * length c + i)) (λ i. get_or c i 0) (length c)
    (λ i h. let q : 0 * length c + i ≡ i = omega (arith, zero-mul (length c)) in ap (number_at (bytes_of c ++ b)) q ∙ number_bytes c b i h) ∙ tab_list 0 c)

column_next : (m : ℕ) (c b : List ℕ) (k : ℕ) → length c ≡ m → numbers_at (bytes_of c ++ b) (suc k * m) m ≡ numbers_at b (k * m) m
column_next m c b k e =
    tab_ext (λ i. number_at (bytes_of c ++ b) (suc k * m + i)) (λ i. number_at b (k * m + i)) m
    (λ i h. let q : suc k * m + i ≡ length c + (k * m + i) = omega (arith, e) in ap (number_at (bytes_of c ++ b)) q ∙ word_past c b (k * m + i))

pub columns_back : (n : ℕ) (cs : List (List ℕ)) (rest : List ℕ) → full_columns n cs ≡ true → columns_at (bytes_of (concatenated (λ (c : List ℕ). c) cs) ++ rest) (1 + 2 * n) (length cs) ≡ cs
unfolding tab concatenated full_columns
columns_back n [] rest h = refl
columns_back n (c ∷ cs) rest h =
    let all : List ℕ = concatenated (λ (c : List ℕ). c) cs in
    let b : List ℕ = bytes_of all ++ rest in
    let m : ℕ = 1 + 2 * n in
    let both = both_held (eqb (length c) m) (full_columns n cs) h in
    let l = eqb-true (length c) m both.0 in
    let e : bytes_of (c ++ all) ++ rest ≡ bytes_of c ++ b = ap (λ (l : List ℕ). l ++ rest) (bytes_append c all) ∙ append_assoc (bytes_of c) (bytes_of all) rest in
    ap (λ (l : List ℕ). columns_at l m (length (c ∷ cs))) e
    ∙ ap₂ (λ (x : List ℕ) (l : List (List ℕ)). x ∷ l) (column_first m c b l)
    (tab_ext (λ k. numbers_at (bytes_of c ++ b) (suc k * m) m) (λ k. numbers_at b (k * m) m) (length cs) (λ k z. column_next m c b k l) ∙ columns_back n cs rest both.1)

-- the buffer's front holds the file's rows, or its columns where each has 1 + 2n numbers and there are 2n
pub list_back : (d n : ℕ) (rs : List WrittenRow) (rest : List ℕ) → list_file_of d n (bytes_of (file_numbers (list_file d n rs)) ++ rest) (length rs) ≡ list_file d n rs
list_back d n rs rest = ap (list_file d n) (ap (λ (xs : List ℕ). tab (row_at (bytes_of xs ++ rest)) (length rs)) (rows_concatenated rs) ∙ rows_encoded rs rest)

pub tableau_back : (d n : ℕ) (cs : List (List ℕ)) (rest : List ℕ) → full_columns n cs ≡ true → length cs ≡ 2 * n
    → tableau_file_of d n (bytes_of (file_numbers (tableau_file d n cs)) ++ rest) ≡ tableau_file d n cs
tableau_back d n cs rest h e =
    ap (tableau_file d n) (ap (columns_at (bytes_of (concatenated (λ (c : List ℕ). c) cs) ++ rest) (1 + 2 * n)) (sym e) ∙ columns_back n cs rest h)
