-- A text that the reader takes is the print of a file. At each byte the text read so far is that of the lines and fields that
-- the state speaks of (`Base`), with the field's own bytes after it (`Holds`). Assumes nothing.
use mathlib.Core.Path.{◌≡◌, refl, sym, ap, ap₂, ◌∙◌}
use mathlib.Core.Bool.{Bool, true, false, cond}
use mathlib.Core.Logic.{◌⊎◌, inl, inr, ◌≢◌}
use mathlib.Core.List.{List, [], ◌∷◌, ◌++◌, append_assoc, append-nil}
use Rattle.std.specs.Prelude.{Option, None, Some}
use Rattle.std.specs.Option.{option_map, option_and_then}
use Prim.Native.Nat.{ℕ, ◌+◌, ◌*◌, ◌-◌, ◌≤◌, ◌<◌}
use native.Mathlib.Omega.{arith}
use lib.Dec.{ltb, eqb}
use lib.ListN.{length, length-append}
use borrow.Author.Tests.{ltb-false, eqb-true, eqb-false, ne_eqb}
use Rattle.gates.specs.Kind.{kind_number, kind_letter}
use Rattle.gates.specs.declared.kind.Kind.{Kind}
use Rattle.gates.specs.declared.kind.Kind.TheVariants as kind
use Rattle.gates.specs.Written.{WrittenRow}
use Rattle.text.specs.Format.{digits, line, letter_of, File, tableau_file, list_file, header, row_line, column_line, concatenated, Every, Fits, KindFits, ColumnFits, RowFits, FileFits, print_file}
use Rattle.text.specs.Inner.Reads.{answer_at, answer_of}
use Rattle.text.specs.Inner.Scan.{kind_of, letter_field, first_digit, next_digit, grown_of, value_of, in_head, letter_due, after_line, with_field, grow, comma_of, head_comma, body_comma, line_of, head_line, body_line, ended_of, after_byte, out_after_byte, Held, scanned, opening_of, start_of}
use Rattle.text.specs.declared.reading.Form.{Form}
use Rattle.text.specs.declared.reading.Form.TheVariants.{TableHead, ListHead, Column, GateRow}
use Rattle.text.specs.declared.reading.Field.{Field}
use Rattle.text.specs.declared.reading.Field.TheVariants.{Empty, Number, Zero, Letter}
use Rattle.text.specs.declared.reading.State.{State}
use Rattle.text.proofs.Digits.{digits_low, digits_more}
use Rattle.text.proofs.Letters.{number_letter}

-- ---- fields
-- w is the text of the field, which is a letter's where `due` says so
abbrev pub Holds : Bool → Field → List ℕ → Type 0
Holds due Empty w = w ≡ []
Holds due (Number x) w = ((due ≡ false) × ((0 < x) × Fits x)) × (w ≡ digits x)
Holds due Zero w = (due ≡ false) × (w ≡ digits 0)
Holds due (Letter k) w = (due ≡ true) × (w ≡ kind_letter k ∷ [])

-- the same of the field that comes next, where there is one
abbrev pub HoldsNext : Bool → Option Field → List ℕ → Type 0
HoldsNext due None w = Unit {0}
HoldsNext due (Some f) w = Holds due f w

-- what a field that is ended holds
abbrev pub Word : Bool → ℕ → List ℕ → Type 0
Word true k w = KindFits k × (w ≡ letter_of k ∷ [])
Word false x w = Fits x × (w ≡ digits x)

-- a test that is passed, or not
test : (P : Bool → Type 0) (t : Bool) → (t ≡ true → P true) → (t ≡ false → P false) → P t
test P true a b = a refl
test P false a b = b refl

-- a letter that has a kind is that kind's letter
letter_or : (b : ℕ) (k : Kind) (rest : Option Kind) → HoldsNext true (option_map Letter rest) (b ∷ []) → HoldsNext true (option_map Letter (cond (eqb b (kind_letter k)) (Some k) rest)) (b ∷ [])
letter_or b k rest next =
    test (λ (t : Bool). HoldsNext true (option_map Letter (cond t (Some k) rest)) (b ∷ [])) (eqb b (kind_letter k))
    (λ e. (refl, ap (λ (x : ℕ). x ∷ []) (eqb-true b (kind_letter k) e))) (λ e. next)

grown_letter : (b : ℕ) → HoldsNext true (letter_field b) (b ∷ [])
unfolding letter_field kind_of
grown_letter b =
    letter_or b kind.F _ (letter_or b kind.S _ (letter_or b kind.A _ (letter_or b kind.M _ (letter_or b kind.X _ (letter_or b kind.Z _ (letter_or b kind.C _ (letter_or b kind.W None tt)))))))

grown_first : (b : ℕ) → HoldsNext false (first_digit b) (b ∷ [])
unfolding first_digit
grown_first b =
    test (λ (t : Bool). HoldsNext false (cond t None (cond (ltb 57 b) None (cond (eqb b 48) (Some Zero) (Some (Number (b - 48)))))) (b ∷ [])) (ltb b 48) (λ e. tt) (λ e1.
    test (λ (t : Bool). HoldsNext false (cond t None (cond (eqb b 48) (Some Zero) (Some (Number (b - 48))))) (b ∷ [])) (ltb 57 b) (λ e. tt) (λ e2.
    test (λ (t : Bool). HoldsNext false (cond t (Some Zero) (Some (Number (b - 48)))) (b ∷ [])) (eqb b 48)
    (λ e. (refl, ap (λ (x : ℕ). x ∷ []) (eqb-true b 48 e) ∙ sym (digits_low 0 (omega arith))))
    (λ e3. some (ltb-false b 48 e1) (ltb-false 57 b e2) (eqb-false b 48 e3))))
  where
    some : 48 ≤ b → b ≤ 57 → (b ≡ 48 → ⊥) → Holds false (Number (b - 48)) (b ∷ [])
    some h g q =
        let e : 48 + (b - 48) ≡ b = omega arith in
        ((refl, (omega arith, omega arith)), sym (digits_low (b - 48) (omega arith) ∙ ap (λ (x : ℕ). x ∷ []) e))

grown_next : (due : Bool) (v b : ℕ) (w : List ℕ) → Holds due (Number v) w → HoldsNext due (next_digit v b) (w ++ (b ∷ []))
unfolding next_digit
grown_next due v b w h =
    test (λ (t : Bool). HoldsNext due (cond t None (cond (ltb 57 b) None (cond (ltb 65535 (10 * v + (b - 48))) None (Some (Number (10 * v + (b - 48))))))) (w ++ (b ∷ []))) (ltb b 48) (λ e. tt) (λ e1.
    test (λ (t : Bool). HoldsNext due (cond t None (cond (ltb 65535 (10 * v + (b - 48))) None (Some (Number (10 * v + (b - 48)))))) (w ++ (b ∷ []))) (ltb 57 b) (λ e. tt) (λ e2.
    test (λ (t : Bool). HoldsNext due (cond t None (Some (Number (10 * v + (b - 48))))) (w ++ (b ∷ []))) (ltb 65535 (10 * v + (b - 48))) (λ e. tt)
    (λ e3. some (ltb-false b 48 e1) (ltb-false 57 b e2) (ltb-false 65535 (10 * v + (b - 48)) e3))))
  where
    some : 48 ≤ b → b ≤ 57 → 10 * v + (b - 48) ≤ 65535 → Holds due (Number (10 * v + (b - 48))) (w ++ (b ∷ []))
    some p g q =
        let e : 48 + (b - 48) ≡ b = omega arith in
        let z : 0 < v = h.0.1.0 in
        ((h.0.0, (omega arith, q)), ap (λ (l : List ℕ). l ++ (b ∷ [])) h.1 ∙ sym (digits_more v (b - 48) z (omega arith) ∙ ap (λ (x : ℕ). digits v ++ (x ∷ [])) e))

-- a byte more
pub grown_holds : (due : Bool) (f : Field) (b : ℕ) (w : List ℕ) → Holds due f w → HoldsNext due (grown_of f due b) (w ++ (b ∷ []))
grown_holds true Empty b w h = rw h (grown_letter b)
grown_holds false Empty b w h = rw h (grown_first b)
grown_holds true (Number v) b w h = grown_next true v b w h
grown_holds false (Number v) b w h = grown_next false v b w h
grown_holds due Zero b w h = tt
grown_holds due (Letter k) b w h = tt

kind_fits : (k : Kind) → KindFits (kind_number k)
kind_fits kind.F = omega arith
kind_fits kind.S = omega arith
kind_fits kind.A = omega arith
kind_fits kind.M = omega arith
kind_fits kind.X = omega arith
kind_fits kind.Z = omega arith
kind_fits kind.C = omega arith
kind_fits kind.W = omega arith

-- the field's end
pub ended_word : (due : Bool) (f : Field) (w : List ℕ) (x : ℕ) → Holds due f w → value_of f ≡ Some x → Word due x w
ended_word due Empty w x h e = absurd (let z : ◌≡◌ {A = ℕ} 0 1 = cc in omega arith)
ended_word true (Number v) w x h e = absurd (let z : ◌≡◌ {A = Bool} true false = h.0.0 in let q : ◌≡◌ {A = ℕ} 0 1 = cc in omega arith)
ended_word false (Number v) w x h e = let q : v ≡ x = cc in rw (← q) (h.0.1.1, h.1)
ended_word true Zero w x h e = absurd (let z : ◌≡◌ {A = Bool} true false = h.0 in let q : ◌≡◌ {A = ℕ} 0 1 = cc in omega arith)
ended_word false Zero w x h e = let q : ◌≡◌ {A = ℕ} 0 x = cc in rw (← q) (omega arith, h.1)
ended_word true (Letter k) w x h e = let q : kind_number k ≡ x = cc in rw (← q) (kind_fits k, h.1 ∙ ap (λ (b : ℕ). b ∷ []) (sym (number_letter k)))
ended_word false (Letter k) w x h e = absurd (let z : ◌≡◌ {A = Bool} false true = h.0 in let q : ◌≡◌ {A = ℕ} 0 1 = cc in omega arith)

-- ---- lines
-- fields of a line that is not ended: each with its comma
unfoldable pub commas : List ℕ → List ℕ
commas [] = []
commas (x ∷ xs) = digits x ++ (44 ∷ commas xs)

pub commas_snoc : (xs : List ℕ) (x : ℕ) → commas (xs ++ (x ∷ [])) ≡ commas xs ++ (digits x ++ (44 ∷ []))
unfolding commas
commas_snoc [] x = refl
commas_snoc (y ∷ ys) x = ap (λ (l : List ℕ). digits y ++ (44 ∷ l)) (commas_snoc ys x) ∙ sym (append_assoc (digits y) (44 ∷ commas ys) (digits x ++ (44 ∷ [])))

pub line_snoc : (xs : List ℕ) (x : ℕ) → column_line (xs ++ (x ∷ [])) ≡ commas xs ++ (digits x ++ (10 ∷ []))
unfolding commas line
line_snoc [] x = refl
line_snoc (y ∷ []) x = sym (append_assoc (digits y) (44 ∷ []) (digits x ++ (10 ∷ [])))
line_snoc (y ∷ z ∷ zs) x = ap (λ (l : List ℕ). digits y ++ (44 ∷ l)) (line_snoc (z ∷ zs) x) ∙ sym (append_assoc (digits y) (44 ∷ commas (z ∷ zs)) (digits x ++ (10 ∷ [])))

pub concatenated_snoc : {A : Type 0} (f : A → List ℕ) (xs : List A) (x : A) → concatenated f (xs ++ (x ∷ [])) ≡ concatenated f xs ++ f x
unfolding concatenated
concatenated_snoc f [] x = append-nil (f x)
concatenated_snoc f (y ∷ ys) x = ap (λ (l : List ℕ). f y ++ l) (concatenated_snoc f ys x) ∙ sym (append_assoc (f y) (concatenated f ys) (f x))

pub every_snoc : {A : Type 0} (P : A → Type 0) (xs : List A) (x : A) → Every P xs → P x → Every P (xs ++ (x ∷ []))
unfolding Every
every_snoc P [] x h p = (p, tt)
every_snoc P (y ∷ ys) x h p = (h.0, every_snoc P ys x h.1 p)

none : {A : Type 0} (P : A → Type 0) → Every P []
unfolding Every
none P = tt

-- t is the text before the field at `place` of a line, in a file of d and n
pub data Base : Form → ℕ → ℕ → ℕ → List ℕ → Type 0 where
  table_d : {d n : ℕ} → Base TableHead 0 d n (84 ∷ 44 ∷ [])
  table_n : {d n : ℕ} → Fits d → Base TableHead 1 d n (84 ∷ 44 ∷ (digits d ++ (44 ∷ [])))
  list_d : {d n : ℕ} → Base ListHead 0 d n (76 ∷ 44 ∷ [])
  list_n : {d n : ℕ} → Fits d → Base ListHead 1 d n (76 ∷ 44 ∷ (digits d ++ (44 ∷ [])))
  column : {p d n : ℕ} {t : List ℕ} (cs : List (List ℕ)) (xs : List ℕ) → (Fits d × Fits n) × Every ColumnFits cs → Every Fits xs
      → p ≡ length xs → t ≡ (header 84 d n ++ concatenated column_line cs) ++ commas xs → Base Column p d n t
  row_0 : {d n : ℕ} {t : List ℕ} (rs : List WrittenRow) → (Fits d × Fits n) × Every RowFits rs → t ≡ header 76 d n ++ concatenated row_line rs → Base GateRow 0 d n t
  row_1 : {d n : ℕ} {t : List ℕ} (rs : List WrittenRow) (k : ℕ) → (Fits d × Fits n) × Every RowFits rs → KindFits k
      → t ≡ (header 76 d n ++ concatenated row_line rs) ++ (letter_of k ∷ 44 ∷ []) → Base GateRow 1 d n t
  row_2 : {d n : ℕ} {t : List ℕ} (rs : List WrittenRow) (k a : ℕ) → (Fits d × Fits n) × Every RowFits rs → KindFits k → Fits a
      → t ≡ (header 76 d n ++ concatenated row_line rs) ++ (letter_of k ∷ 44 ∷ (digits a ++ (44 ∷ []))) → Base GateRow 2 d n t
  row_3 : {d n : ℕ} {t : List ℕ} (rs : List WrittenRow) (k a b : ℕ) → (Fits d × Fits n) × Every RowFits rs → KindFits k → Fits a → Fits b
      → t ≡ (header 76 d n ++ concatenated row_line rs) ++ (letter_of k ∷ 44 ∷ (digits a ++ (44 ∷ (digits b ++ (44 ∷ []))))) → Base GateRow 3 d n t
  -- a line with too many fields, which its line feed will break
  table_over : {p d n : ℕ} {t : List ℕ} → 1 < p → Base TableHead p d n t
  list_over : {p d n : ℕ} {t : List ℕ} → 1 < p → Base ListHead p d n t
  row_over : {p d n : ℕ} {t : List ℕ} → 3 < p → Base GateRow p d n t

-- the same of the form that comes next, where there is one
abbrev pub BaseNext : Option Form → ℕ → ℕ → ℕ → List ℕ → Type 0
BaseNext None p d n t = Unit {0}
BaseNext (Some form) p d n t = Base form p d n t

pub comma_base : {form : Form} {p d n : ℕ} {t : List ℕ} (x : ℕ) (w : List ℕ) → Base form p d n t → Word (letter_due form p) x w
    → Base form (p + 1) (cond (in_head form) x d) n (t ++ (w ++ (44 ∷ [])))
unfolding concatenated
comma_base x w table_d h = rw h.1 (table_n h.0)
comma_base x w (table_n f) h = table_over {p = 2} (omega arith)
comma_base x w list_d h = rw h.1 (list_n h.0)
comma_base x w (list_n f) h = list_over {p = 2} (omega arith)
comma_base {p = p} {d = d} {n = n} {t = t} x w (column cs xs fs fx e q) h =
    let z : p + 1 ≡ length (xs ++ (x ∷ [])) = omega (arith, length-append xs (x ∷ [])) in
    column cs (xs ++ (x ∷ [])) fs (every_snoc Fits xs x fx h.0) z
    (ap₂ (λ (u v : List ℕ). u ++ (v ++ (44 ∷ []))) q h.1 ∙ rw (commas_snoc xs x) (append_assoc (header 84 d n ++ concatenated column_line cs) (commas xs) (digits x ++ (44 ∷ []))))
comma_base {d = d} {n = n} x w (row_0 rs fs q) h = row_1 rs x fs h.0 (ap₂ (λ (u v : List ℕ). u ++ (v ++ (44 ∷ []))) q h.1)
comma_base {d = d} {n = n} x w (row_1 rs k fs r q) h =
    row_2 rs k x fs r h.0 (ap₂ (λ (u v : List ℕ). u ++ (v ++ (44 ∷ []))) q h.1 ∙ append_assoc (header 76 d n ++ concatenated row_line rs) (letter_of k ∷ 44 ∷ []) (digits x ++ (44 ∷ [])))
comma_base {d = d} {n = n} x w (row_2 rs k a fs r fa q) h =
    row_3 rs k a x fs r fa h.0 (ap₂ (λ (u v : List ℕ). u ++ (v ++ (44 ∷ []))) q h.1 ∙ append_assoc (header 76 d n ++ concatenated row_line rs) (letter_of k ∷ 44 ∷ (digits a ++ (44 ∷ []))) (digits x ++ (44 ∷ []))
    ∙ ap (λ (l : List ℕ). (header 76 d n ++ concatenated row_line rs) ++ (letter_of k ∷ 44 ∷ l)) (append_assoc (digits a) (44 ∷ []) (digits x ++ (44 ∷ []))))
comma_base x w (row_3 rs k a b fs r fa fb q) h = row_over {p = 4} (omega arith)
comma_base {p = p} x w (table_over o) h = table_over {p = p + 1} (omega arith)
comma_base {p = p} x w (list_over o) h = list_over {p = p + 1} (omega arith)
comma_base {p = p} x w (row_over o) h = row_over {p = p + 1} (omega arith)

pub header_text : (c d x : ℕ) → (c ∷ 44 ∷ (digits d ++ (44 ∷ []))) ++ (digits x ++ (10 ∷ [])) ≡ header c d x
unfolding line
header_text c d x = ap (λ (l : List ℕ). c ∷ 44 ∷ l) (append_assoc (digits d) (44 ∷ []) (digits x ++ (10 ∷ [])))

pub row_text : (r : WrittenRow) → (letter_of r.kind ∷ 44 ∷ (digits r.first ++ (44 ∷ (digits r.second ++ (44 ∷ []))))) ++ (digits r.power ++ (10 ∷ [])) ≡ row_line r
unfolding line
row_text r = simp append_assoc

-- a line more
lines_more : {A : Type 0} (f : A → List ℕ) (head : List ℕ) (xs : List A) (x : A) (a b : List ℕ) → a ++ b ≡ f x → ((head ++ concatenated f xs) ++ a) ++ b ≡ head ++ concatenated f (xs ++ (x ∷ []))
lines_more f head xs x a b e =
    append_assoc (head ++ concatenated f xs) a b ∙ ap (λ (l : List ℕ). (head ++ concatenated f xs) ++ l) e ∙ append_assoc head (concatenated f xs) (f x) ∙ ap (λ (l : List ℕ). head ++ l) (sym (concatenated_snoc f xs x))

pub line_base : {form : Form} {p d n : ℕ} {t : List ℕ} (x : ℕ) (w : List ℕ) → Base form p d n t → Word (letter_due form p) x w
    → BaseNext (after_line form p) 0 d (cond (in_head form) x n) (t ++ (w ++ (10 ∷ [])))
unfolding concatenated commas
line_base x w table_d h = tt
line_base {d = d} x w (table_n f) h =
    column [] [] ((f, h.0), none ColumnFits) (none Fits) refl
    (ap (λ (v : List ℕ). (84 ∷ 44 ∷ (digits d ++ (44 ∷ []))) ++ (v ++ (10 ∷ []))) h.1 ∙ header_text 84 d x ∙ sym (append-nil (header 84 d x)) ∙ sym (append-nil (header 84 d x ++ [])))
line_base x w list_d h = tt
line_base {d = d} x w (list_n f) h = row_0 [] ((f, h.0), none RowFits) (ap (λ (v : List ℕ). (76 ∷ 44 ∷ (digits d ++ (44 ∷ []))) ++ (v ++ (10 ∷ []))) h.1 ∙ header_text 76 d x ∙ sym (append-nil (header 76 d x)))
line_base {p = p} {d = d} {n = n} {t = t} x w (column cs xs fs fx e q) h =
    let z : 0 < length (xs ++ (x ∷ [])) = omega (arith, length-append xs (x ∷ [])) in
    column (cs ++ ((xs ++ (x ∷ [])) ∷ [])) [] (fs.0, every_snoc ColumnFits cs (xs ++ (x ∷ [])) fs.1 (z, every_snoc Fits xs x fx h.0)) (none Fits) refl
    (ap₂ (λ (u v : List ℕ). u ++ (v ++ (10 ∷ []))) q h.1 ∙ lines_more column_line (header 84 d n) cs (xs ++ (x ∷ [])) (commas xs) (digits x ++ (10 ∷ [])) (sym (line_snoc xs x)) ∙ sym (append-nil (header 84 d n ++ concatenated column_line (cs ++ ((xs ++ (x ∷ [])) ∷ [])))))
line_base x w (row_0 rs fs q) h = tt
line_base x w (row_1 rs k fs r q) h = tt
line_base x w (row_2 rs k a fs r fa q) h = tt
line_base {d = d} {n = n} x w (row_3 rs k a b fs r fa fb q) h =
    let row : WrittenRow = record { kind = k; first = a; second = b; power = x } in
    row_0 (rs ++ (row ∷ [])) (fs.0, every_snoc RowFits rs row fs.1 (r, (fa, (fb, h.0))))
    (ap₂ (λ (u v : List ℕ). u ++ (v ++ (10 ∷ []))) q h.1 ∙ lines_more row_line (header 76 d n) rs row (letter_of k ∷ 44 ∷ (digits a ++ (44 ∷ (digits b ++ (44 ∷ []))))) (digits x ++ (10 ∷ [])) (row_text row))
line_base {p = p} x w (table_over o) h = rw (ne_eqb p 1 (λ e. omega arith)) tt
line_base {p = p} x w (list_over o) h = rw (ne_eqb p 1 (λ e. omega arith)) tt
line_base {p = p} x w (row_over o) h = rw (ne_eqb p 3 (λ e. omega arith)) tt

-- ---- the whole text
-- what is known of the text read: what is before the field, and the field
pub record Known (s : State) (text : List ℕ) : Type 0 where
  pub before : List ℕ
  pub word : List ℕ
  pub base : Base s.form s.place s.d s.n before
  pub holds : Holds (letter_due s.form s.place) s.field word
  pub all : text ≡ before ++ word

-- an empty field after t
fresh : (s : State) (t text : List ℕ) → s.field ≡ Empty → Base s.form s.place s.d s.n t → text ≡ t → Known s text
fresh s t text e b q = record { before = t; word = []; base = b; holds = go (letter_due s.form s.place) s.field e; all = q ∙ sym (append-nil t) }
  where
    go : (due : Bool) (f : Field) → f ≡ Empty → Holds due f []
    go due Empty z = refl
    go due (Number x) z = absurd (let q : ◌≡◌ {A = ℕ} 0 1 = cc in omega arith)
    go due Zero z = absurd (let q : ◌≡◌ {A = ℕ} 0 1 = cc in omega arith)
    go due (Letter k) z = absurd (let q : ◌≡◌ {A = ℕ} 0 1 = cc in omega arith)

-- what is known with the state that comes next, where there is one: a text that is not laid out may be any
abbrev pub KnownNext : Option State → List ℕ → Type 0
KnownNext None text = Unit {0}
KnownNext (Some s) text = Known s text

grow_known : (s : State) (text : List ℕ) (b : ℕ) → Known s text → KnownNext (grow s b) (text ++ (b ∷ []))
grow_known s text b k = go (grown_of s.field (letter_due s.form s.place) b) (grown_holds (letter_due s.form s.place) s.field b k.word k.holds)
  where
    go : (o : Option Field) → HoldsNext (letter_due s.form s.place) o (k.word ++ (b ∷ [])) → KnownNext (option_map (with_field s) o) (text ++ (b ∷ []))
    go None h = tt
    go (Some f) h = record {
      before = k.before;
      word = k.word ++ (b ∷ []);
      base = k.base;
      holds = h;
      all = ap (λ (l : List ℕ). l ++ (b ∷ [])) k.all ∙ append_assoc k.before k.word (b ∷ []);
    }

comma_known : (s : State) (text : List ℕ) (x : ℕ) → value_of s.field ≡ Some x → Known s text → Known (comma_of s x) (text ++ (44 ∷ []))
unfolding comma_of
comma_known s text x e k =
    let b = comma_base x k.word k.base (ended_word (letter_due s.form s.place) s.field k.word x k.holds e) in
    go (in_head s.form) b
  where
    q : text ++ (44 ∷ []) ≡ k.before ++ (k.word ++ (44 ∷ []))
    q = ap (λ (l : List ℕ). l ++ (44 ∷ [])) k.all ∙ append_assoc k.before k.word (44 ∷ [])

    go : (h : Bool) → Base s.form (s.place + 1) (cond h x s.d) s.n (k.before ++ (k.word ++ (44 ∷ []))) → Known (cond h (head_comma s x) (body_comma s x)) (text ++ (44 ∷ []))
    go true b = fresh (head_comma s x) (k.before ++ (k.word ++ (44 ∷ []))) (text ++ (44 ∷ [])) refl b q
    go false b = fresh (body_comma s x) (k.before ++ (k.word ++ (44 ∷ []))) (text ++ (44 ∷ [])) refl b q

line_known : (s : State) (text : List ℕ) (x : ℕ) → value_of s.field ≡ Some x → Known s text → KnownNext (line_of s x) (text ++ (10 ∷ []))
unfolding line_of
line_known s text x e k =
    let b = line_base x k.word k.base (ended_word (letter_due s.form s.place) s.field k.word x k.holds e) in
    go (after_line s.form s.place) (in_head s.form) b
  where
    q : text ++ (10 ∷ []) ≡ k.before ++ (k.word ++ (10 ∷ []))
    q = ap (λ (l : List ℕ). l ++ (10 ∷ [])) k.all ∙ append_assoc k.before k.word (10 ∷ [])

    go : (o : Option Form) (h : Bool) → BaseNext o 0 s.d (cond h x s.n) (k.before ++ (k.word ++ (10 ∷ []))) → KnownNext (option_map (λ f. cond h (head_line s x f) (body_line s x f)) o) (text ++ (10 ∷ []))
    go None h b = tt
    go (Some f) true b = fresh (head_line s x f) (k.before ++ (k.word ++ (10 ∷ []))) (text ++ (10 ∷ [])) refl b q
    go (Some f) false b = fresh (body_line s x f) (k.before ++ (k.word ++ (10 ∷ []))) (text ++ (10 ∷ [])) refl b q

comma_ended : (s : State) (text : List ℕ) (v : Option ℕ) → value_of s.field ≡ v → Known s text → KnownNext (ended_of s v 44) (text ++ (44 ∷ []))
comma_ended s text None e k = tt
comma_ended s text (Some x) e k = comma_known s text x e k

line_ended : (s : State) (text : List ℕ) (v : Option ℕ) → value_of s.field ≡ v → Known s text → KnownNext (ended_of s v 10) (text ++ (10 ∷ []))
line_ended s text None e k = tt
line_ended s text (Some x) e k = line_known s text x e k

byte_known : (s : State) (text : List ℕ) (b : ℕ) → Known s text → KnownNext (after_byte s b) (text ++ (b ∷ []))
unfolding after_byte
byte_known s text b k =
    test (λ (t : Bool). KnownNext (cond t (ended_of s (value_of s.field) 44) (cond (eqb b 10) (ended_of s (value_of s.field) 10) (grow s b))) (text ++ (b ∷ []))) (eqb b 44)
    (λ e. rw (eqb-true b 44 e) (comma_ended s text (value_of s.field) refl k))
    (λ e. test (λ (t : Bool). KnownNext (cond t (ended_of s (value_of s.field) 10) (grow s b)) (text ++ (b ∷ []))) (eqb b 10)
    (λ z. rw (eqb-true b 10 z) (line_ended s text (value_of s.field) refl k))
    (λ z. grow_known s text b k))

-- what is known at the end of a scan that comes to one
abbrev pub KnownEnd : Option Held → List ℕ → Type 0
KnownEnd None text = Unit {0}
KnownEnd (Some h) text = Known h.state text

pub scanned_known : (u : List ℕ) (s : State) (out text : List ℕ) → Known s text → KnownEnd (scanned s out u) (text ++ u)
unfolding scanned
scanned_known [] s out text k = rw append-nil k
scanned_known (b ∷ u) s out text k = go (after_byte s b) (byte_known s text b k) (λ t h. rw append_assoc at (scanned_known u t (out_after_byte s b out) (text ++ (b ∷ [])) h))
  where
    go : (o : Option State) → KnownNext o (text ++ (b ∷ [])) → ((t : State) → Known t (text ++ (b ∷ [])) → KnownEnd (scanned t (out_after_byte s b out) u) (text ++ (b ∷ u)))
        → KnownEnd (option_and_then (λ next. scanned next (out_after_byte s b out) u) o) (text ++ (b ∷ u))
    go None h r = tt
    go (Some t) h r = r t h

-- the opening of a text whose first byte isn't G (71)
pub opening_known : (a b : ℕ) → a ≢ 71 → KnownNext (option_map start_of (opening_of a b)) (a ∷ b ∷ [])
unfolding opening_of
opening_known a b ne = rw (ne_eqb a 71 ne)
    (test (λ (t : Bool). KnownNext (option_map start_of (cond t (cond (eqb a 84) (Some TableHead) (cond (eqb a 76) (Some ListHead) None)) None)) (a ∷ b ∷ [])) (eqb b 44)
    (λ e. test (λ (t : Bool). KnownNext (option_map start_of (cond t (Some TableHead) (cond (eqb a 76) (Some ListHead) None))) (a ∷ b ∷ [])) (eqb a 84)
    (λ z. fresh (start_of TableHead) (84 ∷ 44 ∷ []) (a ∷ b ∷ []) refl table_d (ap₂ (λ (x y : ℕ). x ∷ y ∷ []) (eqb-true a 84 z) (eqb-true b 44 e)))
    (λ z. test (λ (t : Bool). KnownNext (option_map start_of (cond t (Some ListHead) None)) (a ∷ b ∷ [])) (eqb a 76)
    (λ y. fresh (start_of ListHead) (76 ∷ 44 ∷ []) (a ∷ b ∷ []) refl list_d (ap₂ (λ (x y : ℕ). x ∷ y ∷ []) (eqb-true a 76 y) (eqb-true b 44 e)))
    (λ y. tt)))
    (λ e. tt))

-- a file, or no answer
abbrev pub Printed : List ℕ → Type 0
Printed text = (f : File) × (FileFits f × (text ≡ print_file f))

finish_line : {form : Form} {p d n : ℕ} {t : List ℕ} (s : State) → Base form p d n t → p ≡ 0 → Printed t ⊎ (answer_at form s ≡ None)
unfolding commas
finish_line s table_d e = inr refl
finish_line s (table_n f) e = inr refl
finish_line s list_d e = inr refl
finish_line s (list_n f) e = inr refl
finish_line {d = d} {n = n} s (column cs [] fs fx z q) e = inl (tableau_file d n cs, (fs, q ∙ append-nil (header 84 d n ++ concatenated column_line cs)))
finish_line s (column cs (x ∷ xs) fs fx z q) e = absurd (omega arith)
finish_line {d = d} {n = n} s (row_0 rs fs q) e = inl (list_file d n rs, (fs, q))
finish_line s (row_1 rs k fs r q) e = absurd (omega arith)
finish_line s (row_2 rs k a fs r fa q) e = absurd (omega arith)
finish_line s (row_3 rs k a b fs r fa fb q) e = absurd (omega arith)
finish_line s (table_over o) e = inr refl
finish_line s (list_over o) e = inr refl
finish_line s (row_over o) e = absurd (omega arith)

pub finish : (s : State) (text : List ℕ) → Known s text → Printed text ⊎ (answer_of s.field s ≡ None)
finish s text k = go (letter_due s.form s.place) s.field k.word k.holds k.all
  where
    go : (due : Bool) (f : Field) (w : List ℕ) → Holds due f w → text ≡ k.before ++ w → Printed text ⊎ (answer_of f s ≡ None)
    go due Empty w h q =
        test (λ (t : Bool). Printed text ⊎ (cond t (answer_at s.form s) None ≡ None)) (eqb s.place 0)
        (λ e. let z : text ≡ k.before = q ∙ rw h (append-nil k.before) in rw z (finish_line s k.base (eqb-true s.place 0 e)))
        (λ e. inr refl)
    go due (Number x) w h q = inr refl
    go due Zero w h q = inr refl
    go due (Letter k) w h q = inr refl
