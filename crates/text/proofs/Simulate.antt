-- The scan of the print of a file: it ends in the state that the file says. Assumes nothing.
use mathlib.Core.Path.{◌≡◌, refl, sym, ap, ap₂, ◌∙◌}
use mathlib.Core.Bool.{Bool, true, false, ◌&&◌, and-true, and_assoc}
use mathlib.Core.List.{List, [], ◌∷◌, ◌++◌, map, append_assoc}
use Rattle.std.specs.Prelude.{Option, Some}
use Prim.Native.Nat.{ℕ, zero, suc, ◌+◌, ◌*◌, ◌/◌, ◌%◌, ◌≤◌, ◌<◌}
use native.Mathlib.Numerals.{one-add}
use native.Mathlib.Omega.{arith}
use lib.Dec.{ltb, eqb, eqb-suc-suc}
use lib.ListN.{length, length-append}
use lib.Seq.{sets}
use borrow.Author.Tests.{ltb-true, ltb-false, ne_eqb}
use Rattle.arith.specs.Bytes.{bytes_of}
use Rattle.arith.proofs.Bytes.{write_more}
use Rattle.gates.specs.Written.{WrittenRow, row_numbers}
use Rattle.text.specs.Format.{decimal, digits, line, letter_of, row_line, column_line, concatenated, Every, Fits, ColumnFits, RowFits}
use Rattle.text.specs.Convert.{full_columns}
use Rattle.text.specs.Inner.Scan.{Held, with_field, scanned, after_byte, out_after_byte, grown_of, letter_due, value_of, comma_of, line_of, kept_of, start_of}
use Rattle.text.specs.declared.reading.Form.{Form}
use Rattle.text.specs.declared.reading.Form.TheVariants.{TableHead, ListHead, Column, GateRow}
use Rattle.text.specs.declared.reading.Field.{Field}
use Rattle.text.specs.declared.reading.Field.TheVariants.{Empty, Number}
use Rattle.text.specs.declared.reading.Field.TheVariants as field
use Rattle.text.specs.declared.reading.State.{State}
use Rattle.text.proofs.Digits.{decimal_low, decimal_high, number_field, number_some, value_number, first_digit_lem, next_digit_lem, Letter, letter}

-- ---- one byte
scanned_inside : (s : State) (f g : Field) (out : List ℕ) (b : ℕ) (u : List ℕ) → (b ≡ 44 → ⊥) → (b ≡ 10 → ⊥) → grown_of f (letter_due s.form s.place) b ≡ Some g
    → scanned (with_field s f) out (b ∷ u) ≡ scanned (with_field s g) out u
unfolding scanned after_byte out_after_byte
scanned_inside s f g out b u h k e = rw (ne_eqb b 44 h, ne_eqb b 10 k, e)

scanned_comma : (s : State) (f : Field) (x : ℕ) (out u : List ℕ) → value_of f ≡ Some x
    → scanned (with_field s f) out (44 ∷ u) ≡ scanned (comma_of s x) (kept_of s.form s.count x out) u
unfolding scanned after_byte out_after_byte comma_of
scanned_comma s f x out u e = rw e

scanned_line : (s t : State) (f : Field) (x : ℕ) (out u : List ℕ) → value_of f ≡ Some x → line_of s x ≡ Some t
    → scanned (with_field s f) out (10 ∷ u) ≡ scanned t (kept_of s.form s.count x out) u
unfolding scanned after_byte out_after_byte line_of
scanned_line s t f x out u e l = rw (e, l)

-- ---- a number
number_low : (k x : ℕ) (s : State) (out u : List ℕ) → letter_due s.form s.place ≡ false → x < 10
    → scanned (with_field s Empty) out (decimal k x ++ u) ≡ scanned (with_field s (number_field x)) out u
number_low k x s out u due q =
    rw (decimal_low k x q) (scanned_inside s Empty (number_field x) out (48 + x) u (λ e. omega arith) (λ e. omega arith) (rw due (first_digit_lem x q)))

number_high : (k x : ℕ) (s : State) (out u : List ℕ) → 10 ≤ x → Fits x
    → scanned (with_field s Empty) out (decimal k (x / 10) ++ ((48 + x % 10) ∷ u)) ≡ scanned (with_field s (number_field (x / 10))) out ((48 + x % 10) ∷ u)
    → scanned (with_field s Empty) out (decimal (suc k) x ++ u) ≡ scanned (with_field s (number_field x)) out u
number_high k x s out u q fit r =
    let e : 10 * (x / 10) + x % 10 ≡ x = omega arith in
    rw (decimal_high k x q, append_assoc) (r ∙ rw (number_some (x / 10) (omega arith)) (scanned_inside s (Number (x / 10)) (number_field x) out (48 + x % 10) u (λ z. omega arith) (λ z. omega arith)
    (next_digit_lem (x / 10) (x % 10) (omega arith) (omega arith) ∙ ap (λ (y : ℕ). Some (Number y)) e ∙ ap Some (sym (number_some x (omega arith))))))

number_scanned : (k x : ℕ) (s : State) (out u : List ℕ) → letter_due s.form s.place ≡ false → x ≤ k → Fits x
    → scanned (with_field s Empty) out (decimal k x ++ u) ≡ scanned (with_field s (number_field x)) out u
number_scanned zero x s out u due h fit = number_low zero x s out u due (omega arith)
number_scanned (suc k) x s out u due h fit = go (ltb x 10) refl (λ q. number_scanned k (x / 10) s out ((48 + x % 10) ∷ u) due (omega arith) (omega arith))
  where
    go : (t : Bool) → ltb x 10 ≡ t
        → (10 ≤ x → scanned (with_field s Empty) out (decimal k (x / 10) ++ ((48 + x % 10) ∷ u)) ≡ scanned (with_field s (number_field (x / 10))) out ((48 + x % 10) ∷ u))
        → scanned (with_field s Empty) out (decimal (suc k) x ++ u) ≡ scanned (with_field s (number_field x)) out u
    go true e r = number_low (suc k) x s out u due (ltb-true x 10 e)
    go false e r = number_high k x s out u (ltb-false x 10 e) fit (r (ltb-false x 10 e))

-- a number and what ends its field
pub field_comma : (x : ℕ) (s : State) (out u : List ℕ) → letter_due s.form s.place ≡ false → Fits x
    → scanned (with_field s Empty) out (digits x ++ (44 ∷ u)) ≡ scanned (comma_of s x) (kept_of s.form s.count x out) u
unfolding digits
field_comma x s out u due fit = number_scanned x x s out (44 ∷ u) due (omega arith) fit ∙ scanned_comma s (number_field x) x out u (value_number x)

pub field_line : (x : ℕ) (s t : State) (out u : List ℕ) → letter_due s.form s.place ≡ false → Fits x → line_of s x ≡ Some t
    → scanned (with_field s Empty) out (digits x ++ (10 ∷ u)) ≡ scanned t (kept_of s.form s.count x out) u
unfolding digits
field_line x s t out u due fit l = number_scanned x x s out (10 ∷ u) due (omega arith) fit ∙ scanned_line s t (number_field x) x out u (value_number x) l

-- the same at the front of a line
line_comma : (x : ℕ) (s : State) (out v u : List ℕ) → letter_due s.form s.place ≡ false → Fits x
    → scanned (with_field s Empty) out ((digits x ++ (44 ∷ v)) ++ u) ≡ scanned (comma_of s x) (kept_of s.form s.count x out) (v ++ u)
line_comma x s out v u due fit = rw append_assoc (field_comma x s out (v ++ u) due fit)

line_end : (x : ℕ) (s t : State) (out u : List ℕ) → letter_due s.form s.place ≡ false → Fits x → line_of s x ≡ Some t
    → scanned (with_field s Empty) out ((digits x ++ (10 ∷ [])) ++ u) ≡ scanned t (kept_of s.form s.count x out) u
line_end x s t out u due fit l = rw append_assoc (field_line x s t out u due fit l)

-- a letter and its comma
letter_comma : (k : ℕ) (s : State) (out u : List ℕ) → letter_due s.form s.place ≡ true → Letter k
    → scanned (with_field s Empty) out (letter_of k ∷ 44 ∷ u) ≡ scanned (comma_of s k) (kept_of s.form s.count k out) u
letter_comma k s out u due l =
    scanned_inside s Empty (field.Letter l.kind) out (letter_of k) (44 ∷ u) l.no_comma l.no_end (rw due l.back)
    ∙ scanned_comma s (field.Letter l.kind) k out u (ap Some l.number)

-- ---- lines
abbrev pub st : Form → ℕ → ℕ → ℕ → ℕ → ℕ → Bool → State
st form d n l p c e = record { form = form; d = d; n = n; lines = l; place = p; count = c; full = e; field = Empty }

abbrev pub held : State → List ℕ → Option Held
held s out = Some (record { state = s; out = out })

-- two bytes further on
next_number : (out : List ℕ) (c x : ℕ) (xs : List ℕ) → sets (sets out (2 * c) (bytes_of (x ∷ []))) (2 * (c + 1)) (bytes_of xs) ≡ sets out (2 * c) (bytes_of (x ∷ xs))
unfolding bytes_of
next_number out c x xs = let e : 2 * (c + 1) ≡ suc (suc (2 * c)) = omega arith in rw e

column_scanned : (d n l p c : ℕ) (e : Bool) (c' p' x : ℕ) (xs out u : List ℕ) → c' ≡ c + length (x ∷ xs) → p' ≡ p + length xs → Every Fits (x ∷ xs)
    → scanned (st Column d n l p c e) out (line (map digits (x ∷ xs)) ++ u) ≡ scanned (st Column d n (l + 1) 0 c' (e && eqb p' (2 * n))) (sets out (2 * c) (bytes_of (x ∷ xs))) u
unfolding line Every line_of comma_of kept_of
column_scanned d n l p c e c' p' x [] out u hc hp fits =
    let qc : c' ≡ c + 1 = omega arith in
    let qp : p' ≡ p = omega arith in
    rw (qc, qp) (line_end x (st Column d n l p c e) (st Column d n (l + 1) 0 (c + 1) (e && eqb p (2 * n))) out u refl fits.0 refl)
column_scanned d n l p c e c' p' x (y ∷ ys) out u hc hp fits =
    line_comma x (st Column d n l p c e) out (line (map digits (y ∷ ys))) u refl fits.0
    ∙ column_scanned d n l (p + 1) (c + 1) e c' p' y ys (sets out (2 * c) (bytes_of (x ∷ []))) u (omega arith) (omega arith) fits.1
    ∙ ap (λ (o : List ℕ). scanned (st Column d n (l + 1) 0 c' (e && eqb p' (2 * n))) o u) (next_number out c x (y ∷ ys))

eqb_more : (m k : ℕ) → eqb m k ≡ eqb (suc m) (1 + k)
eqb_more m k = rw (one-add k) (sym (eqb-suc-suc m k))

columns_scanned : (d n l c : ℕ) (e : Bool) (l' c' : ℕ) (cs : List (List ℕ)) (out : List ℕ)
    → l' ≡ l + length cs → c' ≡ c + length (concatenated (λ (x : List ℕ). x) cs) → Every ColumnFits cs
    → scanned (st Column d n l 0 c e) out (concatenated column_line cs)
    ≡ held (st Column d n l' 0 c' (e && full_columns n cs)) (sets out (2 * c) (bytes_of (concatenated (λ (x : List ℕ). x) cs)))
unfolding concatenated Every full_columns bytes_of scanned
columns_scanned d n l c e l' c' [] out hl hc fits =
    let ql : l' ≡ l = omega arith in
    let qc : c' ≡ c = omega arith in
    rw (ql, qc, and-true)
columns_scanned d n l c e l' c' ([] ∷ cs) out hl hc fits = absurd (let h = fits.0.0 in omega arith)
columns_scanned d n l c e l' c' ((x ∷ xs) ∷ cs) out hl hc fits =
    let hs = length-append (x ∷ xs) (concatenated (λ (x : List ℕ). x) cs) in
    column_scanned d n l 0 c e (c + length (x ∷ xs)) (length xs) x xs out (concatenated column_line cs) refl (omega arith) fits.0.1
    ∙ columns_scanned d n (l + 1) (c + length (x ∷ xs)) (e && eqb (length xs) (2 * n)) l' c' cs (sets out (2 * c) (bytes_of (x ∷ xs))) (omega arith) (omega (arith, hc, hs)) fits.1
    ∙ ap₂ (λ (v : Bool) (o : List ℕ). held (st Column d n l' 0 c' v) o)
    (and_assoc e (eqb (length xs) (2 * n)) (full_columns n cs) ∙ ap (λ (b : Bool). e && (b && full_columns n cs)) (eqb_more (length xs) (2 * n)))
    (write_more out c (c + length (x ∷ xs)) (x ∷ xs) (concatenated (λ (x : List ℕ). x) cs) refl)

-- a row: letter, first, second, power
row_scanned : (d n l c : ℕ) (e : Bool) (c' : ℕ) (r : WrittenRow) (out u : List ℕ) → c' ≡ c + 4 → RowFits r
    → scanned (st GateRow d n l 0 c e) out (row_line r ++ u) ≡ scanned (st GateRow d n (l + 1) 0 c' (e && eqb 3 (2 * n))) (sets out (2 * c) (bytes_of (row_numbers r))) u
unfolding line line_of comma_of kept_of
row_scanned d n l c e c' r out u hc fits =
    let k = r.kind in
    let a = r.first in
    let b = r.second in
    let p = r.power in
    let o1 : List ℕ = sets out (2 * c) (bytes_of (k ∷ [])) in
    let o2 : List ℕ = sets o1 (2 * (c + 1)) (bytes_of (a ∷ [])) in
    let o3 : List ℕ = sets o2 (2 * (c + 1 + 1)) (bytes_of (b ∷ [])) in
    let qc : c' ≡ c + 1 + 1 + 1 + 1 = omega arith in
    letter_comma k (st GateRow d n l 0 c e) out (line (digits a ∷ digits b ∷ digits p ∷ []) ++ u) refl (letter k fits.0)
    ∙ line_comma a (st GateRow d n l 1 (c + 1) e) o1 (line (digits b ∷ digits p ∷ [])) u refl fits.1.0
    ∙ line_comma b (st GateRow d n l 2 (c + 1 + 1) e) o2 (line (digits p ∷ [])) u refl fits.1.1.0
    ∙ line_end p (st GateRow d n l 3 (c + 1 + 1 + 1) e) (st GateRow d n (l + 1) 0 (c + 1 + 1 + 1 + 1) (e && eqb 3 (2 * n))) o3 u refl fits.1.1.1 refl
    ∙ ap₂ (λ (m : ℕ) (o : List ℕ). scanned (st GateRow d n (l + 1) 0 m (e && eqb 3 (2 * n))) o u) (sym qc)
    (next_number o2 (c + 1 + 1) b (p ∷ []) ∙ next_number o1 (c + 1) a (b ∷ p ∷ []) ∙ next_number out c k (a ∷ b ∷ p ∷ []))

-- what the rows leave of `full`, which no answer tells
pub rows_full : ℕ → Bool → List WrittenRow → Bool
rows_full n e [] = e
rows_full n e (r ∷ rs) = rows_full n (e && eqb 3 (2 * n)) rs

rows_scanned : (d n l c : ℕ) (e : Bool) (l' c' : ℕ) (rs : List WrittenRow) (out : List ℕ)
    → l' ≡ l + length rs → c' ≡ c + length (concatenated row_numbers rs) → Every RowFits rs
    → scanned (st GateRow d n l 0 c e) out (concatenated row_line rs) ≡ held (st GateRow d n l' 0 c' (rows_full n e rs)) (sets out (2 * c) (bytes_of (concatenated row_numbers rs)))
unfolding concatenated Every bytes_of scanned rows_full
rows_scanned d n l c e l' c' [] out hl hc fits =
    let ql : l' ≡ l = omega arith in
    let qc : c' ≡ c = omega arith in
    rw (ql, qc)
rows_scanned d n l c e l' c' (r ∷ rs) out hl hc fits =
    let hs = length-append (row_numbers r) (concatenated row_numbers rs) in
    row_scanned d n l c e (c + 4) r out (concatenated row_line rs) refl fits.0
    ∙ rows_scanned d n (l + 1) (c + 4) (e && eqb 3 (2 * n)) l' c' rs (sets out (2 * c) (bytes_of (row_numbers r))) (omega arith) (omega (arith, hc, hs)) fits.1
    ∙ ap (λ (o : List ℕ). held (st GateRow d n l' 0 c' (rows_full n (e && eqb 3 (2 * n)) rs)) o) (write_more out c (c + 4) (row_numbers r) (concatenated row_numbers rs) refl)

-- the header after its letter: d and n
table_head : (d n : ℕ) (out u : List ℕ) → Fits d → Fits n → scanned (start_of TableHead) out (line (digits d ∷ digits n ∷ []) ++ u) ≡ scanned (st Column d n 0 0 0 true) out u
unfolding line line_of comma_of kept_of
table_head d n out u fd fn =
    line_comma d (start_of TableHead) out (line (digits n ∷ [])) u refl fd
    ∙ line_end n (st TableHead d 0 0 1 0 true) (st Column d n 0 0 0 true) out u refl fn refl

list_head : (d n : ℕ) (out u : List ℕ) → Fits d → Fits n → scanned (start_of ListHead) out (line (digits d ∷ digits n ∷ []) ++ u) ≡ scanned (st GateRow d n 0 0 0 true) out u
unfolding line line_of comma_of kept_of
list_head d n out u fd fn =
    line_comma d (start_of ListHead) out (line (digits n ∷ [])) u refl fd
    ∙ line_end n (st ListHead d 0 0 1 0 true) (st GateRow d n 0 0 0 true) out u refl fn refl

-- ---- files
pub tableau_scanned : (d n : ℕ) (cs : List (List ℕ)) (out : List ℕ) → (Fits d × Fits n) × Every ColumnFits cs
    → scanned (start_of TableHead) out (line (digits d ∷ digits n ∷ []) ++ concatenated column_line cs)
    ≡ held (st Column d n (length cs) 0 (length (concatenated (λ (x : List ℕ). x) cs)) (full_columns n cs)) (sets out 0 (bytes_of (concatenated (λ (x : List ℕ). x) cs)))
tableau_scanned d n cs out fits =
    table_head d n out (concatenated column_line cs) fits.0.0 fits.0.1 ∙ columns_scanned d n 0 0 true (length cs) (length (concatenated (λ (x : List ℕ). x) cs)) cs out (omega arith) (omega arith) fits.1

pub list_scanned : (d n : ℕ) (rs : List WrittenRow) (out : List ℕ) → (Fits d × Fits n) × Every RowFits rs
    → scanned (start_of ListHead) out (line (digits d ∷ digits n ∷ []) ++ concatenated row_line rs)
    ≡ held (st GateRow d n (length rs) 0 (length (concatenated row_numbers rs)) (rows_full n true rs)) (sets out 0 (bytes_of (concatenated row_numbers rs)))
list_scanned d n rs out fits =
    list_head d n out (concatenated row_line rs) fits.0.0 fits.0.1 ∙ rows_scanned d n 0 0 true (length rs) (length (concatenated row_numbers rs)) rs out (omega arith) (omega arith) fits.1
