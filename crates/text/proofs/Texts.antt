-- What the text program prints for a text: by what the reader answers. Assumes nothing.
use mathlib.Core.Path.{◌≡◌, ap, subst, ◌∙◌}
use mathlib.Core.Bool.{Bool, true}
use mathlib.Core.List.{List}
use Rattle.std.specs.Prelude.{Option, None, Some, Result, Ok}
use Rattle.std.specs.Result.{result_ok}
use Rattle.arith.specs.declared.checks.Refusal.{Refusal}
use Prim.Native.Nat.{ℕ, ◌+◌, ◌*◌, ◌≤◌}
use native.Mathlib.Omega.{arith}
use lib.ListN.{length, take, drop}
use lib.Seq.{take_at}
use Rattle.arith.specs.Bytes.{bytes_of}
use Rattle.arith.specs.Refusals.{refusal_number}
use Rattle.arith.specs.declared.checks.Refusal.TheVariants.{Text}
use Rattle.gates.specs.Written.{WrittenRow, row_numbers, list_rows, encode_rows}
use Rattle.text.specs.Format.{File, tableau_file, list_file, partner_file, concatenated, LaidOut, print_refusal}
use Rattle.text.specs.Inner.Reads.{Reads, ColumnsRead, RowsRead}
use Rattle.text.specs.Convert.{PrintsFor, Converts, InputFits, ConvertsInput}
use Rattle.text.specs.Inner.FromBytes.{RowsConvert, ColumnsConvert}
use Rattle.text.proofs.Back.{rows_concatenated, rows_room, columns_room}
use Rattle.gates.proofs.Written.{rows_bytes, list_encoded}
use Rattle.text.proofs.Unique.{one_file}
use Rattle.text.specs.declared.reading.Columns.{Columns}
use Rattle.text.specs.declared.reading.Contents.{Contents}
use Rattle.text.specs.declared.reading.Contents.TheVariants as contents
use Rattle.text.specs.declared.reading.Rows.{Rows}

-- ---- 9
pub converts_none : {text output : List ℕ} → ((f : File) → LaidOut text f → ⊥) → output ≡ print_refusal (refusal_number Text) → Converts text output
converts_none h p = record { file = λ f laid. absurd (h f laid); none = λ no. p }

-- ---- a file: the only one that is laid out so
converts_file : (text output : List ℕ) (f : File) → LaidOut text f → PrintsFor f output → Converts text output
converts_file text output f laid p = record { file = λ g other. subst (λ (x : File). PrintsFor x output) (one_file text f g laid other) p; none = λ no. absurd (no f laid) }

-- the rows of an L file or of a G file are at the buffer's front
module _ (file : ℕ → ℕ → List WrittenRow → File) (text before : List ℕ) {d n lines : ℕ} (buffer : List ℕ) (read : RowsRead file text before d n lines buffer) where
  pub rows_there : length buffer ≡ length before → 8 * lines ≤ length buffer
  rows_there l = rows_room file text before d n lines buffer read l

  pub converts_rows : (output : List ℕ) → RowsConvert file d n (take (8 * lines) buffer) output → Converts text output
  converts_rows output p =
      let rows : List WrittenRow = read.rows in
      let b : List ℕ = bytes_of (concatenated row_numbers rows) in
      let same : b ≡ encode_rows rows = ap bytes_of (rows_concatenated rows) in
      let l : length b ≡ 8 * lines = omega (arith, ap length same, rows_bytes rows, read.counted) in
      let at : take (8 * lines) buffer ≡ encode_rows rows = ap (take (8 * lines)) read.holds ∙ take_at b (drop (length b) before) (8 * lines) l ∙ same in
      converts_file text output (file d n rows) read.laid (p rows (ap length at ∙ rows_bytes rows) (ap list_rows at ∙ list_encoded rows))

-- a T file's numbers are there
module _ (text before : List ℕ) {d n lines : ℕ} {full : Bool} (buffer : List ℕ) (read : ColumnsRead text before d n lines full buffer) where
  pub columns_read_there : length buffer ≡ length before → full ≡ true → 2 * (lines * (1 + 2 * n)) ≤ length buffer
  columns_read_there l f = columns_room text before d n lines buffer (subst (λ (x : Bool). ColumnsRead text before d n lines x buffer) f read) l

  pub converts_columns_read : (output : List ℕ) → ColumnsConvert d n lines full buffer output → Converts text output
  converts_columns_read output p =
      let columns : List (List ℕ) = read.columns in
      let b : List ℕ = bytes_of (concatenated (λ (c : List ℕ). c) columns) in
      converts_file text output (tableau_file d n columns) read.laid (p columns (drop (length b) before) read.counted read.sized read.holds)

-- ---- by what the reader answers
-- the answer is what `?` goes on with
pub found : {A : Type 0} {o : Option A} {r : Result A Refusal} {x y : A} → o ≡ result_ok r → r ≡ Ok x → x ≡ y → o ≡ Some y
found e f g = e ∙ ap result_ok (f ∙ ap Ok g)

module _ (text before : List ℕ) (r : Option Contents) (buffer : List ℕ) (h : Reads text before r buffer) where
  pub reads_none : r ≡ None → (f : File) → LaidOut text f → ⊥
  reads_none e = rw e at h

  -- an L file, and a G file
  pub read_rows : {rows : Rows} → r ≡ Some (contents.Rows rows) → RowsRead list_file text before rows.d rows.n rows.lines buffer
  read_rows e = rw e at h

  pub read_partner : {rows : Rows} → r ≡ Some (contents.PartnerRows rows) → RowsRead partner_file text before rows.d rows.n rows.lines buffer
  read_partner e = rw e at h

  -- a T file
  module _ {c : Columns} (e : r ≡ Some (contents.Tableau c)) where
    pub read_columns : ColumnsRead text before c.d c.n c.lines c.full buffer
    read_columns = rw e at h

    pub columns_there : length buffer ≡ length before → c.full ≡ true → 2 * (c.lines * (1 + 2 * c.n)) ≤ length buffer
    columns_there l f = columns_read_there text before buffer read_columns l f

    pub converts_columns : (output : List ℕ) → ColumnsConvert c.d c.n c.lines c.full buffer output → Converts text output
    converts_columns output p = converts_columns_read text before buffer read_columns output p

-- ---- what could be read of the input
pub input_there : (size count : ℕ) (i : Option ℕ) → i ≡ Some count → InputFits size i → count ≤ size
input_there size count i e h = rw e at h

pub input_complete : (buffer output : List ℕ) (count : ℕ) (i : Option ℕ) → i ≡ Some count → Converts (take count buffer) output → ConvertsInput buffer i output
input_complete buffer output count i e h = rw e h

pub input_incomplete : (buffer output : List ℕ) (i : Option ℕ) → i ≡ None → output ≡ print_refusal (refusal_number Text) → ConvertsInput buffer i output
input_incomplete buffer output i e h = rw e h
