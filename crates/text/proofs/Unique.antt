-- A text is the print of one file at most, so the reader's contract leaves nothing open. Assumes nothing.
use mathlib.Core.Path.{◌≡◌, refl, sym, ap, ap₂, ◌∙◌}
use mathlib.Core.Bool.{Bool, true, false, cond}
use Rattle.std.specs.Prelude.{Some}
use mathlib.Core.List.{List, [], ◌∷◌, ◌++◌, append_assoc}
use Prim.Native.Nat.{ℕ, zero, suc, ◌+◌, ◌*◌, ◌-◌, ◌/◌, ◌%◌, ◌≤◌, ◌<◌}
use native.Mathlib.Omega.{arith}
use lib.Dec.{ltb}
use lib.ListN.{length, length-append}
use borrow.Author.Tests.{ltb-true, ltb-false}
use Rattle.gates.specs.Written.{WrittenRow}
use Rattle.gates.proofs.Written.{row_path}
use Rattle.text.specs.Format.{decimal, digits, line, letter_of, File, tableau_file, list_file, partner_file, row_line, column_line, concatenated, Every, ColumnFits, RowFits, FileFits, print_file, print_refusal, LaidOut}
use Rattle.text.specs.Inner.Scan.{letter_field}
use Rattle.text.specs.declared.reading.Field.TheVariants as field
use Rattle.text.proofs.Digits.{decimal_low, decimal_high, Letter, letter}
use Rattle.text.proofs.Sound.{every_snoc}

-- ---- a number's text says the number
-- the number that digits stand for, after the number a
value : ℕ → List ℕ → ℕ
value a [] = a
value a (b ∷ bs) = value (10 * a + (b - 48)) bs

value_last : (a : ℕ) (l : List ℕ) (b : ℕ) → value a (l ++ (b ∷ [])) ≡ 10 * value a l + (b - 48)
unfolding value
value_last a [] b = refl
value_last a (c ∷ l) b = value_last (10 * a + (c - 48)) l b

value_low : (k x : ℕ) → x < 10 → value 0 (decimal k x) ≡ x
unfolding value
value_low k x h = rw (decimal_low k x h) (omega arith)

value_decimal : (k x : ℕ) → x ≤ k → value 0 (decimal k x) ≡ x
value_decimal zero x h = value_low zero x (omega arith)
value_decimal (suc k) x h = go (ltb x 10) refl (λ q. value_decimal k (x / 10) (omega arith))
  where
    go : (t : Bool) → ltb x 10 ≡ t → (10 ≤ x → value 0 (decimal k (x / 10)) ≡ x / 10) → value 0 (decimal (suc k) x) ≡ x
    go true e r = value_low (suc k) x (ltb-true x 10 e)
    go false e r =
        let q : 10 ≤ x = ltb-false x 10 e in
        rw (decimal_high k x q, value_last, r q) (omega arith)

digits_unique : (x y : ℕ) → digits x ≡ digits y → x ≡ y
unfolding digits
digits_unique x y e = sym (value_decimal x x (omega arith)) ∙ ap (value 0) e ∙ value_decimal y y (omega arith)

-- ---- fields end where they seem to
-- digits are bytes of 48 and more; a comma and a line feed are below that
abbrev Digit : ℕ → Type 0
Digit b = 48 ≤ b

decimal_digits : (k x : ℕ) → Every Digit (decimal k x)
unfolding decimal Every
decimal_digits zero x = (omega arith, tt)
decimal_digits (suc k) x = go (ltb x 10) (decimal_digits k (x / 10))
  where
    go : (t : Bool) → Every Digit (decimal k (x / 10)) → Every Digit (cond t ((48 + x) ∷ []) (decimal k (x / 10) ++ ((48 + x % 10) ∷ [])))
    go true h = (omega arith, tt)
    go false h = every_snoc Digit (decimal k (x / 10)) (48 + x % 10) h (omega arith)

all_digits : (x : ℕ) → Every Digit (digits x)
unfolding digits
all_digits x = decimal_digits x x

pub record Parted (v w : List ℕ) (s t : ℕ) (u z : List ℕ) : Type 0 where
  pub word : v ≡ w
  pub mark : s ≡ t
  pub rest : u ≡ z

parted : (v w : List ℕ) (s t : ℕ) (u z : List ℕ) → Every Digit v → Every Digit w → s < 48 → t < 48 → v ++ (s ∷ u) ≡ w ++ (t ∷ z) → Parted v w s t u z
unfolding Every
parted [] [] s t u z hv hw hs ht e = record { word = refl; mark = cc; rest = cc }
parted [] (y ∷ w) s t u z hv hw hs ht e = absurd (let q : s ≡ y = cc in let h = hw.0 in omega arith)
parted (x ∷ v) [] s t u z hv hw hs ht e = absurd (let q : x ≡ t = cc in let h = hv.0 in omega arith)
parted (x ∷ v) (y ∷ w) s t u z hv hw hs ht e =
    let q : x ≡ y = cc in
    let r : v ++ (s ∷ u) ≡ w ++ (t ∷ z) = cc in
    let p = parted v w s t u z hv.1 hw.1 hs ht r in
    record { word = ap₂ (λ (a : ℕ) (l : List ℕ). a ∷ l) q p.word; mark = p.mark; rest = p.rest }

-- two numbers, each with what ends its field
fields : (x y s t : ℕ) (u z : List ℕ) → s < 48 → t < 48 → digits x ++ (s ∷ u) ≡ digits y ++ (t ∷ z) → (x ≡ y) × ((s ≡ t) × (u ≡ z))
fields x y s t u z hs ht e =
    let p = parted (digits x) (digits y) s t u z (all_digits x) (all_digits y) hs ht e in
    (digits_unique x y p.word, (p.mark, p.rest))

-- ---- lines
line_unique : (x : ℕ) (xs : List ℕ) (y : ℕ) (ys u z : List ℕ) → column_line (x ∷ xs) ++ u ≡ column_line (y ∷ ys) ++ z → (x ∷ xs ≡ y ∷ ys) × (u ≡ z)
unfolding line
line_unique x [] y [] u z e =
    let p = fields x y 10 10 u z (omega arith) (omega arith) (sym (append_assoc (digits x) (10 ∷ []) u) ∙ e ∙ append_assoc (digits y) (10 ∷ []) z) in
    (ap (λ (a : ℕ). a ∷ []) p.0, p.1.1)
line_unique x [] y (b ∷ ys) u z e =
    let p = fields x y 10 44 u (column_line (b ∷ ys) ++ z) (omega arith) (omega arith) (sym (append_assoc (digits x) (10 ∷ []) u) ∙ e ∙ append_assoc (digits y) (44 ∷ column_line (b ∷ ys)) z) in
    absurd (let q = p.1.0 in omega arith)
line_unique x (a ∷ xs) y [] u z e =
    let p = fields x y 44 10 (column_line (a ∷ xs) ++ u) z (omega arith) (omega arith) (sym (append_assoc (digits x) (44 ∷ column_line (a ∷ xs)) u) ∙ e ∙ append_assoc (digits y) (10 ∷ []) z) in
    absurd (let q = p.1.0 in omega arith)
line_unique x (a ∷ xs) y (b ∷ ys) u z e =
    let p = fields x y 44 44 (column_line (a ∷ xs) ++ u) (column_line (b ∷ ys) ++ z) (omega arith) (omega arith) (sym (append_assoc (digits x) (44 ∷ column_line (a ∷ xs)) u) ∙ e ∙ append_assoc (digits y) (44 ∷ column_line (b ∷ ys)) z) in
    let r = line_unique a xs b ys u z p.1.1 in
    (ap₂ (λ (c : ℕ) (l : List ℕ). c ∷ l) p.0 r.0, r.1)

-- no line is empty
line_some : (xs : List ℕ) (u : List ℕ) → [] ≡ column_line xs ++ u → ⊥
unfolding line
line_some [] u e = let z : ◌≡◌ {A = ℕ} 0 1 = cc in omega arith
line_some (x ∷ []) u e =
    let h = ap length e in
    omega (arith, h, length-append (digits x ++ (10 ∷ [])) u, length-append (digits x) (10 ∷ []))
line_some (x ∷ y ∷ ys) u e =
    let h = ap length e in
    omega (arith, h, length-append (digits x ++ (44 ∷ column_line (y ∷ ys))) u, length-append (digits x) (44 ∷ column_line (y ∷ ys)))

columns_unique : (cs es : List (List ℕ)) → Every ColumnFits cs → Every ColumnFits es → concatenated column_line cs ≡ concatenated column_line es → cs ≡ es
unfolding concatenated Every
columns_unique [] [] f g e = refl
columns_unique [] (y ∷ es) f g e = absurd (line_some y (concatenated column_line es) e)
columns_unique (x ∷ cs) [] f g e = absurd (line_some x (concatenated column_line cs) (sym e))
columns_unique ([] ∷ cs) (y ∷ es) f g e = absurd (let h = f.0.0 in omega arith)
columns_unique ((x ∷ xs) ∷ cs) ([] ∷ es) f g e = absurd (let h = g.0.0 in omega arith)
columns_unique ((x ∷ xs) ∷ cs) ((y ∷ ys) ∷ es) f g e =
    let p = line_unique x xs y ys (concatenated column_line cs) (concatenated column_line es) e in
    ap₂ (λ (c : List ℕ) (l : List (List ℕ)). c ∷ l) p.0 (columns_unique cs es f.1 g.1 p.1)

letter_unique : (k j : ℕ) → Letter k → Letter j → letter_of k ≡ letter_of j → k ≡ j
letter_unique k j l m e =
    let h : Some (field.Letter l.kind) ≡ Some (field.Letter m.kind) = sym l.back ∙ ap letter_field e ∙ m.back in
    cc

-- a row's line is its letter, a comma, and a line of three numbers
row_unique : (r s : WrittenRow) (u z : List ℕ) → RowFits r → RowFits s → row_line r ++ u ≡ row_line s ++ z → (r ≡ s) × (u ≡ z)
unfolding line
row_unique r s u z f g e =
    let a : letter_of r.kind ≡ letter_of s.kind = cc in
    let b : column_line (r.first ∷ r.second ∷ r.power ∷ []) ++ u ≡ column_line (s.first ∷ s.second ∷ s.power ∷ []) ++ z = cc in
    let k = letter_unique r.kind s.kind (letter r.kind f.0) (letter s.kind g.0) a in
    let p = line_unique r.first (r.second ∷ r.power ∷ []) s.first (s.second ∷ s.power ∷ []) u z b in
    (same k p.0, p.1)
  where
    same : r.kind ≡ s.kind → r.first ∷ r.second ∷ r.power ∷ [] ≡ s.first ∷ s.second ∷ s.power ∷ [] → r ≡ s
    same k q =
        let h1 : r.first ≡ s.first = cc in
        let h2 : r.second ≡ s.second = cc in
        let h3 : r.power ≡ s.power = cc in
        row_path k h1 h2 h3

rows_unique : (rs ss : List WrittenRow) → Every RowFits rs → Every RowFits ss → concatenated row_line rs ≡ concatenated row_line ss → rs ≡ ss
unfolding concatenated Every line
rows_unique [] [] f g e = refl
rows_unique [] (s ∷ ss) f g e = absurd (let z : ◌≡◌ {A = ℕ} 0 1 = cc in omega arith)
rows_unique (r ∷ rs) [] f g e = absurd (let z : ◌≡◌ {A = ℕ} 0 1 = cc in omega arith)
rows_unique (r ∷ rs) (s ∷ ss) f g e =
    let p = row_unique r s (concatenated row_line rs) (concatenated row_line ss) f.0 g.0 e in
    ap₂ (λ (c : WrittenRow) (l : List WrittenRow). c ∷ l) p.0 (rows_unique rs ss f.1 g.1 p.1)

-- ---- files
head_unique : (c d n e m : ℕ) (u z : List ℕ) → c ∷ 44 ∷ (column_line (d ∷ n ∷ []) ++ u) ≡ c ∷ 44 ∷ (column_line (e ∷ m ∷ []) ++ z) → (d ≡ e) × ((n ≡ m) × (u ≡ z))
head_unique c d n e m u z q =
    let b : column_line (d ∷ n ∷ []) ++ u ≡ column_line (e ∷ m ∷ []) ++ z = cc in
    let p = line_unique d (n ∷ []) e (m ∷ []) u z b in
    let r : d ∷ n ∷ [] ≡ e ∷ m ∷ [] = p.0 in
    ((cc), ((cc), p.1))

-- two files of rows under one letter
rows_same : (c d n e m : ℕ) (rs ss : List WrittenRow) → Every RowFits rs → Every RowFits ss
    → c ∷ 44 ∷ (column_line (d ∷ n ∷ []) ++ concatenated row_line rs) ≡ c ∷ 44 ∷ (column_line (e ∷ m ∷ []) ++ concatenated row_line ss) → (d ≡ e) × ((n ≡ m) × (rs ≡ ss))
rows_same c d n e m rs ss f g q =
    let p = head_unique c d n e m (concatenated row_line rs) (concatenated row_line ss) q in
    (p.0, (p.1.0, rows_unique rs ss f g p.1.1))

pub print_unique : (f g : File) → FileFits f → FileFits g → print_file f ≡ print_file g → f ≡ g
unfolding line
print_unique (tableau_file d n cs) (tableau_file e m es) f g q =
    let p = head_unique 84 d n e m (concatenated column_line cs) (concatenated column_line es) q in
    let a = p.0 in let b = p.1.0 in let c = columns_unique cs es f.1 g.1 p.1.1 in cc
print_unique (tableau_file d n cs) (list_file e m ss) f g q = absurd (let z : ◌≡◌ {A = ℕ} 84 76 = cc in omega arith)
print_unique (tableau_file d n cs) (partner_file e m ss) f g q = absurd (let z : ◌≡◌ {A = ℕ} 84 71 = cc in omega arith)
print_unique (list_file d n rs) (tableau_file e m es) f g q = absurd (let z : ◌≡◌ {A = ℕ} 76 84 = cc in omega arith)
print_unique (list_file d n rs) (list_file e m ss) f g q = let p = rows_same 76 d n e m rs ss f.1 g.1 q in let a = p.0 in let b = p.1.0 in let c = p.1.1 in cc
print_unique (list_file d n rs) (partner_file e m ss) f g q = absurd (let z : ◌≡◌ {A = ℕ} 76 71 = cc in omega arith)
print_unique (partner_file d n rs) (tableau_file e m es) f g q = absurd (let z : ◌≡◌ {A = ℕ} 71 84 = cc in omega arith)
print_unique (partner_file d n rs) (list_file e m ss) f g q = absurd (let z : ◌≡◌ {A = ℕ} 71 76 = cc in omega arith)
print_unique (partner_file d n rs) (partner_file e m ss) f g q = let p = rows_same 71 d n e m rs ss f.1 g.1 q in let a = p.0 in let b = p.1.0 in let c = p.1.1 in cc

-- a text has one file at most
pub one_file : (text : List ℕ) (f g : File) → LaidOut text f → LaidOut text g → f ≡ g
one_file text f g h k = print_unique f g h.1.0 k.1.0 (sym h.1.1 ∙ k.1.1)

-- ---- refusals: what is printed says the number, and is no list
pub refusal_unique : (k j : ℕ) → print_refusal k ≡ print_refusal j → k ≡ j
unfolding line
refusal_unique k j e =
    let h : digits k ++ (10 ∷ []) ≡ digits j ++ (10 ∷ []) = cc in
    (fields k j 10 10 [] [] (omega arith) (omega arith) h).0

pub refusal_no_list : (k d n : ℕ) (rows : List WrittenRow) → print_file (list_file d n rows) ≡ print_refusal k → ⊥
unfolding line
refusal_no_list k d n rows e = let z : ◌≡◌ {A = ℕ} 76 82 = cc in omega arith
