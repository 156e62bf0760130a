-- What the reader does at each byte; None is where the text is not laid out as the format says. `Sound` and `Simulate` of proofs/ show that it takes exactly the texts that are laid out.
use Rattle.std.specs.Prelude.{Bool, true, false, cond, ◌&&◌, Option, None, Some, List, [], ◌∷◌, ℕ, ◌+◌, ◌*◌, ◌-◌, ◌≤◌, ltb, eqb}
use Rattle.std.specs.Option.{option_map, option_and_then}
use Rattle.std.proofs.lemmas.List.Edits.{sets}
use Rattle.arith.specs.Bytes.{bytes_of}
use Rattle.gates.specs.Kind.{kind_number}
use Rattle.gates.specs.declared.kind.Kind.{Kind}
use Rattle.gates.specs.declared.kind.Kind.TheVariants as kind
use Rattle.text.specs.declared.reading.Form.{Form}
use Rattle.text.specs.declared.reading.Form.TheVariants.{TableHead, ListHead, Column, GateRow}
use Rattle.text.specs.declared.reading.Field.{Field}
use Rattle.text.specs.declared.reading.Field.TheVariants.{Empty, Number, Zero, Letter}
use Rattle.text.specs.declared.reading.State.{State}

-- ---- a field
-- the kind that has a letter
unfoldable pub kind_of : ℕ → Option Kind
kind_of b =
    cond (eqb b 70) (Some kind.F)
    (cond (eqb b 83) (Some kind.S)
    (cond (eqb b 65) (Some kind.A)
    (cond (eqb b 77) (Some kind.M)
    (cond (eqb b 88) (Some kind.X)
    (cond (eqb b 90) (Some kind.Z)
    (cond (eqb b 67) (Some kind.C)
    (cond (eqb b 87) (Some kind.W) None)))))))

-- a field that b begins: a letter; a number
unfoldable pub letter_field : ℕ → Option Field
letter_field b = option_map Letter (kind_of b)

unfoldable pub first_digit : ℕ → Option Field
first_digit b = cond (ltb b 48) None (cond (ltb 57 b) None (cond (eqb b 48) (Some Zero) (Some (Number (b - 48)))))

-- the number v with one digit more
unfoldable pub next_digit : ℕ → ℕ → Option Field
next_digit v b = cond (ltb b 48) None (cond (ltb 57 b) None (cond (ltb 65535 (10 * v + (b - 48))) None (Some (Number (10 * v + (b - 48))))))

-- a field with one byte more; `due` says that it is a letter
abbrev pub grown_of : Field → Bool → ℕ → Option Field
grown_of Empty due b = cond due (letter_field b) (first_digit b)
grown_of (Number v) due b = next_digit v b
grown_of Zero due b = None
grown_of (Letter k) due b = None

-- what a field holds at its end; a letter is its kind's number
abbrev pub value_of : Field → Option ℕ
value_of Empty = None
value_of (Number x) = Some x
value_of Zero = Some 0
value_of (Letter k) = Some (kind_number k)

-- ---- a line
abbrev pub in_head : Form → Bool
in_head TableHead = true
in_head ListHead = true
in_head Column = false
in_head GateRow = false

abbrev pub letter_due : Form → ℕ → Bool
letter_due TableHead place = false
letter_due ListHead place = false
letter_due Column place = false
letter_due GateRow place = eqb place 0

-- the form after a line feed that follows `place` + 1 fields: a header has two after its letter, a row four
abbrev pub after_line : Form → ℕ → Option Form
after_line TableHead place = cond (eqb place 1) (Some Column) None
after_line ListHead place = cond (eqb place 1) (Some GateRow) None
after_line Column place = Some Column
after_line GateRow place = cond (eqb place 3) (Some GateRow) None

-- ---- the state
abbrev pub with_field : State → Field → State
with_field s f = record { form = s.form; d = s.d; n = s.n; lines = s.lines; place = s.place; count = s.count; full = s.full; field = f }

abbrev pub grow : State → ℕ → Option State
grow s b = option_map (with_field s) (grown_of s.field (letter_due s.form s.place) b)

-- a comma after a field that holds x: in the header that is d
abbrev pub head_comma : State → ℕ → State
head_comma s x = record { form = s.form; d = x; n = s.n; lines = s.lines; place = s.place + 1; count = s.count; full = s.full; field = Empty }

abbrev pub body_comma : State → ℕ → State
body_comma s x = record { form = s.form; d = s.d; n = s.n; lines = s.lines; place = s.place + 1; count = s.count + 1; full = s.full; field = Empty }

unfoldable pub comma_of : State → ℕ → State
comma_of s x = cond (in_head s.form) (head_comma s x) (body_comma s x)

-- a line feed after a field that holds x, where the next line has the form f: in the header x is n
abbrev pub head_line : State → ℕ → Form → State
head_line s x f = record { form = f; d = s.d; n = x; lines = s.lines; place = 0; count = s.count; full = s.full; field = Empty }

abbrev pub body_line : State → ℕ → Form → State
body_line s x f = record { form = f; d = s.d; n = s.n; lines = s.lines + 1; place = 0; count = s.count + 1; full = s.full && eqb s.place (2 * s.n); field = Empty }

unfoldable pub line_of : State → ℕ → Option State
line_of s x = option_map (λ f. cond (in_head s.form) (head_line s x f) (body_line s x f)) (after_line s.form s.place)

-- a comma or a line feed ends the field; any other byte is one more of it
abbrev pub ended_of : State → Option ℕ → ℕ → Option State
ended_of s None b = None
ended_of s (Some x) b = cond (eqb b 44) (Some (comma_of s x)) (line_of s x)

unfoldable pub after_byte : State → ℕ → Option State
after_byte s b = cond (eqb b 44) (ended_of s (value_of s.field) 44) (cond (eqb b 10) (ended_of s (value_of s.field) 10) (grow s b))

-- the buffer after the byte: a field that ends, but in the header, is number `count` of the buffer
unfoldable pub kept_of : Form → ℕ → ℕ → List ℕ → List ℕ
kept_of form count x out = cond (in_head form) out (sets out (2 * count) (bytes_of (x ∷ [])))

abbrev pub ended_out : State → Option ℕ → List ℕ → List ℕ
ended_out s None out = out
ended_out s (Some x) out = kept_of s.form s.count x out

unfoldable pub out_after_byte : State → ℕ → List ℕ → List ℕ
out_after_byte s b out = cond (eqb b 44) (ended_out s (value_of s.field) out) (cond (eqb b 10) (ended_out s (value_of s.field) out) out)

-- ---- the whole text
pub record Held : Type 0 where
  pub state : State
  pub out : List ℕ

unfoldable pub scanned : State → List ℕ → List ℕ → Option Held
scanned s out [] = Some (record { state = s; out = out })
scanned s out (b ∷ text) = option_and_then (λ next. scanned next (out_after_byte s b out) text) (after_byte s b)

-- the same, from the state that a scan came to and the buffer as it left it
abbrev pub held_in : Option State → List ℕ → Option Held
held_in None out = None
held_in (Some s) out = Some (record { state = s; out = out })

-- the first two bytes: T, L or G, and a comma. A G file is read as an L file
unfoldable pub opening_of : ℕ → ℕ → Option Form
opening_of a b = cond (eqb b 44) (cond (eqb a 84) (Some TableHead) (cond (eqb a 76) (Some ListHead) (cond (eqb a 71) (Some ListHead) None))) None

abbrev pub start_of : Form → State
start_of form = record { form = form; d = 0; n = 0; lines = 0; place = 0; count = 0; full = true; field = Empty }

-- what keeps the counts within the text's length: i bytes are read
abbrev pub used : Field → ℕ
used Empty = 0
used (Number x) = 1
used Zero = 1
used (Letter k) = 1

pub record Within (i : ℕ) (s : State) : Type 0 where
  pub places : s.place ≤ i
  pub lined : s.lines ≤ i
  pub counted : 2 * s.count + used s.field ≤ i
