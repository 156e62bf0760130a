-- What the reader answers.
use Rattle.std.specs.Prelude.{◌≡◌, Bool, cond, Option, None, Some, List, ℕ, length, eqb}
use Rattle.arith.specs.Bytes.{bytes_of, front}
use Rattle.gates.specs.Written.{WrittenRow, row_numbers}
use Rattle.text.specs.Format.{File, tableau_file, list_file, partner_file, concatenated, LaidOut}
use Rattle.text.specs.Convert.{full_columns}
use Rattle.text.specs.declared.reading.Form.{Form}
use Rattle.text.specs.declared.reading.Form.TheVariants.{TableHead, ListHead, Column, GateRow}
use Rattle.text.specs.declared.reading.Field.{Field}
use Rattle.text.specs.declared.reading.Field.TheVariants.{Empty, Number, Zero, Letter}
use Rattle.text.specs.declared.reading.State.{State}
use Rattle.text.specs.declared.reading.Contents.{Contents}
use Rattle.text.specs.declared.reading.Contents.TheVariants.{Tableau, Rows, PartnerRows}

-- the numbers of all columns, or of all rows, one after the other
abbrev pub file_numbers : File → List ℕ
file_numbers (tableau_file d n columns) = concatenated (λ c. c) columns
file_numbers (list_file d n rows) = concatenated row_numbers rows
file_numbers (partner_file d n rows) = concatenated row_numbers rows

-- the answer for a file
abbrev pub reading_of : File → Contents
reading_of (tableau_file d n columns) = Tableau (record { d = d; n = n; lines = length columns; full = full_columns n columns })
reading_of (list_file d n rows) = Rows (record { d = d; n = n; lines = length rows })
reading_of (partner_file d n rows) = PartnerRows (record { d = d; n = n; lines = length rows })

-- the text is a T file of d, n and columns: their count, whether each has 1 + 2n numbers, and the numbers at the buffer's front
pub record ColumnsRead (text before : List ℕ) (d n lines : ℕ) (full : Bool) (out : List ℕ) : Type 0 where
  pub columns : List (List ℕ)
  pub laid : LaidOut text (tableau_file d n columns)
  pub counted : lines ≡ length columns
  pub sized : full ≡ full_columns n columns
  pub holds : out ≡ front (bytes_of (file_numbers (tableau_file d n columns))) before

-- the text is an L file, or a G file, of d, n and rows: their count, and the rows, 8 bytes each, at the buffer's front
pub record RowsRead (file : ℕ → ℕ → List WrittenRow → File) (text before : List ℕ) (d n lines : ℕ) (out : List ℕ) : Type 0 where
  pub rows : List WrittenRow
  pub laid : LaidOut text (file d n rows)
  pub counted : lines ≡ length rows
  pub holds : out ≡ front (bytes_of (concatenated row_numbers rows)) before

-- the answer and the buffer, which held `before`; there is no file exactly where no file prints so
abbrev pub Reads : List ℕ → List ℕ → Option Contents → List ℕ → Type 0
Reads text before None out = (f : File) → LaidOut text f → ⊥
Reads text before (Some (Tableau c)) out = ColumnsRead text before c.d c.n c.lines c.full out
Reads text before (Some (Rows r)) out = RowsRead list_file text before r.d r.n r.lines out
Reads text before (Some (PartnerRows r)) out = RowsRead partner_file text before r.d r.n r.lines out

-- what the state at the end of the text answers: a whole file ends where a line would begin
abbrev pub answer_at : Form → State → Option Contents
answer_at TableHead s = None
answer_at ListHead s = None
answer_at Column s = Some (Tableau (record { d = s.d; n = s.n; lines = s.lines; full = s.full }))
answer_at GateRow s = Some (Rows (record { d = s.d; n = s.n; lines = s.lines }))

abbrev pub whole_of : State → Option Contents
whole_of s = cond (eqb s.place 0) (answer_at s.form s) None

abbrev pub answer_of : Field → State → Option Contents
answer_of Empty s = whole_of s
answer_of (Number x) s = None
answer_of Zero s = None
answer_of (Letter k) s = None

-- the rows that were read are a partner's where the text's first byte is G
abbrev pub partner_of : Contents → Contents
partner_of (Tableau c) = Tableau c
partner_of (Rows r) = PartnerRows r
partner_of (PartnerRows r) = PartnerRows r

unfoldable pub named_of : ℕ → Contents → Contents
named_of first r = cond (eqb first 71) (partner_of r) r
