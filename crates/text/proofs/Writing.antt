-- Laws of what is written after what. Assumes nothing.
use mathlib.Core.Path.{◌≡◌, refl, sym, ap, ap₂, ◌∙◌}
use mathlib.Core.List.{List, [], ◌∷◌, ◌++◌, append-nil, append_assoc}
use Prim.Native.Nat.{ℕ, ◌+◌, ◌*◌, ◌/◌, ◌%◌, ◌≤◌, ◌<◌}
use native.Mathlib.Nat.{zero-add, add-zero}
use native.Mathlib.Numerals.{add-one}
use native.Mathlib.Omega.{arith}
use lib.ListN.{length, set, take, drop, length-append}
use lib.Seq.{sets, sets-eq, drop-drop}
use Rattle.arith.proofs.Bytes.{tab_more, tab_length, sets_append, write_front}
use Rattle.arith.specs.Bytes.{tab, number_at, numbers_at}
use Rattle.gates.specs.Written.{WrittenRow, row_at, list_rows}
use Rattle.gates.proofs.Written.{rows_front, rows_none}
use Rattle.text.specs.Format.{digits, line, letter_of, header, column_line, row_line, concatenated, print_refusal}
use Rattle.text.specs.Inner.Prints.{PutsText, Prints}
use Rattle.text.proofs.Digits.{digits_low, digits_last}
use Rattle.text.proofs.Sound.{header_text, row_text, commas, commas_snoc, line_snoc, concatenated_snoc}

pub puts_none : (out : List ℕ) (at : ℕ) → PutsText out at [] at out
puts_none out at = record { ends = sym (add-zero at); holds = refl }

pub puts_more : (out : List ℕ) (at : ℕ) (a b : List ℕ) (next : ℕ) (l : List ℕ) (last : ℕ) (m : List ℕ) → PutsText out at a next l → PutsText l next b last m → PutsText out at (a ++ b) last m
puts_more out at a b next l last m p q = record {
  ends = let e = p.ends in let f = q.ends in omega (arith, length-append a b);
  holds = q.holds ∙ ap₂ (λ (z : List ℕ) (k : ℕ). sets z k b) p.holds p.ends ∙ sym (sets_append out at a b);
}

pub puts_byte : (out : List ℕ) (at b : ℕ) → PutsText out at (b ∷ []) (at + 1) (set out at b)
puts_byte out at b = record { ends = refl; holds = refl }

-- a text that is copied to where it belongs
pub puts_mid : {text copied : List ℕ} (out : List ℕ) (at : ℕ) (a : List ℕ) (k : ℕ) → text ≡ a → copied ≡ text → k ≡ length text → at + length text ≤ length out
    → PutsText out at a (at + length text) (take at out ++ (copied ++ drop k (drop at out)))
puts_mid {text} out at a k e f g h = record {
  ends = ap (λ (l : List ℕ). at + length l) e;
  holds = ap₂ (λ (l r : List ℕ). take at out ++ (l ++ r)) (f ∙ e) (drop-drop k at out ∙ ap (λ (m : ℕ). drop (at + m) out) (g ∙ ap length e))
      ∙ sym (append_assoc (take at out) a (drop (at + length a) out)) ∙ sym (sets-eq a out at (omega (arith, ap length e)));
}

-- one byte after a text
pub puts_last : (out : List ℕ) (at : ℕ) (a : List ℕ) (b next : ℕ) (l : List ℕ) → PutsText out at a next l → PutsText out at (a ++ (b ∷ [])) (next + 1) (set l next b)
puts_last out at a b next l p = puts_more out at a (b ∷ []) next l (next + 1) (set l next b) p (puts_byte l next b)

-- the text that is written is the one that is meant
pub puts_as : (out : List ℕ) (at : ℕ) (a b : List ℕ) (next : ℕ) (l : List ℕ) → a ≡ b → PutsText out at a next l → PutsText out at b next l
puts_as out at a b next l e p = rw e at p

pub puts_digit : (out : List ℕ) (at x : ℕ) → x < 10 → PutsText out at (digits x) (at + 1) (set out at (48 + x))
puts_digit out at x h = puts_as out at ((48 + x) ∷ []) (digits x) (at + 1) (set out at (48 + x)) (sym (digits_low x h)) (puts_byte out at (48 + x))

pub puts_digits : (out : List ℕ) (at x next : ℕ) (l : List ℕ) → 10 ≤ x → PutsText out at (digits (x / 10)) next l → PutsText out at (digits x) (next + 1) (set l next (48 + x % 10))
puts_digits out at x next l h p =
    puts_as out at (digits (x / 10) ++ ((48 + x % 10) ∷ [])) (digits x) (next + 1) (set l next (48 + x % 10)) (sym (digits_last x h)) (puts_last out at (digits (x / 10)) (48 + x % 10) next l p)

-- a text from the start of an output that has room
pub puts_front : (out text : List ℕ) (next : ℕ) (l : List ℕ) → next ≤ length out → PutsText out 0 text next l → Prints text out next l
puts_front out text next l h p =
    let e : next ≡ length text = p.ends ∙ zero-add (length text) in
    record { counts = e; fronts = p.holds ∙ write_front out text (omega arith) }

-- ---- lines
pub puts_two : (out : List ℕ) (at a b : ℕ) → PutsText out at (a ∷ b ∷ []) (at + 2) (set (set out at a) (at + 1) b)
puts_two out at a b = record { ends = refl; holds = rw add-one }

pub puts_start : (out : List ℕ) (a b : ℕ) → PutsText out 0 (a ∷ b ∷ []) 2 (set (set out 0 a) 1 b)
puts_start out a b = record { ends = refl; holds = refl }

pub puts_header : (out : List ℕ) (letter d n n1 : ℕ) (l1 : List ℕ) (n2 : ℕ) (l2 : List ℕ)
    → PutsText (set (set out 0 letter) 1 44) 2 (digits d ++ (44 ∷ [])) n1 l1 → PutsText l1 n1 (digits n ++ (10 ∷ [])) n2 l2 → PutsText out 0 (header letter d n) n2 l2
puts_header out letter d n n1 l1 n2 l2 p q =
    puts_as out 0 ((letter ∷ 44 ∷ (digits d ++ (44 ∷ []))) ++ (digits n ++ (10 ∷ []))) (header letter d n) n2 l2 (header_text letter d n)
    (puts_more out 0 (letter ∷ 44 ∷ (digits d ++ (44 ∷ []))) (digits n ++ (10 ∷ [])) n1 l1 n2 l2
    (puts_more out 0 (letter ∷ 44 ∷ []) (digits d ++ (44 ∷ [])) 2 (set (set out 0 letter) 1 44) n1 l1 (puts_start out letter 44) p) q)

pub puts_refusal : (out : List ℕ) (k n1 : ℕ) (l1 : List ℕ) → n1 ≤ length out → PutsText (set (set out 0 82) 1 44) 2 (digits k ++ (10 ∷ [])) n1 l1
    → Prints (print_refusal k) out n1 l1
unfolding line
puts_refusal out k n1 l1 h p =
    puts_front out (print_refusal k) n1 l1 h (puts_more out 0 (82 ∷ 44 ∷ []) (digits k ++ (10 ∷ [])) 2 (set (set out 0 82) 1 44) n1 l1 (puts_start out 82 44) p)

-- ---- loops that print a table
pub commas_none : (out : List ℕ) (at : ℕ) (f : ℕ → ℕ) → PutsText out at (commas (tab f 0)) at out
unfolding tab commas
commas_none out at f = puts_none out at

pub commas_more : (f : ℕ → ℕ) (out : List ℕ) (at i x next : ℕ) (l : List ℕ) (n2 : ℕ) (l2 : List ℕ) → x ≡ f i
    → PutsText out at (commas (tab f i)) next l → PutsText l next (digits x ++ (44 ∷ [])) n2 l2 → PutsText out at (commas (tab f (i + 1))) n2 l2
commas_more f out at i x next l n2 l2 e p q =
    puts_as out at (commas (tab f i) ++ (digits (f i) ++ (44 ∷ []))) (commas (tab f (i + 1))) n2 l2 (sym (ap commas (tab_more f i) ∙ commas_snoc (tab f i) (f i)))
    (puts_more out at (commas (tab f i)) (digits (f i) ++ (44 ∷ [])) next l n2 l2 p (rw e at q))

pub commas_end : (f : ℕ → ℕ) (out : List ℕ) (at i m x next : ℕ) (l : List ℕ) (n2 : ℕ) (l2 : List ℕ) → x ≡ f i → m ≡ i + 1
    → PutsText out at (commas (tab f i)) next l → PutsText l next (digits x ++ (10 ∷ [])) n2 l2 → PutsText out at (column_line (tab f m)) n2 l2
commas_end f out at i m x next l n2 l2 e h p q =
    puts_as out at (commas (tab f i) ++ (digits (f i) ++ (10 ∷ []))) (column_line (tab f m)) n2 l2 (sym (ap column_line (ap (tab f) h ∙ tab_more f i) ∙ line_snoc (tab f i) (f i)))
    (puts_more out at (commas (tab f i)) (digits (f i) ++ (10 ∷ [])) next l n2 l2 p (rw e at q))

pub lines_none : {A : Type 0} (line : A → List ℕ) (f : ℕ → A) (out : List ℕ) (at : ℕ) → PutsText out at (concatenated line (tab f 0)) at out
unfolding tab concatenated
lines_none line f out at = puts_none out at

pub lines_snoc : {A : Type 0} (line : A → List ℕ) (xs : List A) (out : List ℕ) (at next : ℕ) (l : List ℕ) (n2 : ℕ) (l2 : List ℕ) {x y : A} → x ≡ y
    → PutsText out at (concatenated line xs) next l → PutsText l next (line x) n2 l2 → PutsText out at (concatenated line (xs ++ (y ∷ []))) n2 l2
lines_snoc {A} line xs out at next l n2 l2 {x} {y} e p q =
    puts_as out at (concatenated line xs ++ line x) (concatenated line (xs ++ (y ∷ []))) n2 l2 (ap (λ (z : A). concatenated line xs ++ line z) e ∙ sym (concatenated_snoc line xs y))
    (puts_more out at (concatenated line xs) (line x) next l n2 l2 p q)

pub lines_put : {A : Type 0} (line : A → List ℕ) (f : ℕ → A) (out : List ℕ) (at i next : ℕ) (l : List ℕ) (n2 : ℕ) (l2 : List ℕ) {x : A} → x ≡ f i
    → PutsText out at (concatenated line (tab f i)) next l → PutsText l next (line x) n2 l2 → PutsText out at (concatenated line (tab f (i + 1))) n2 l2
lines_put line f out at i next l n2 l2 e p q =
    puts_as out at (concatenated line (tab f i ++ (f i ∷ []))) (concatenated line (tab f (i + 1))) n2 l2 (sym (ap (concatenated line) (tab_more f i)))
    (lines_snoc line (tab f i) out at next l n2 l2 e p q)

-- ---- a loop over a list's bytes, row by row: the rows passed, then those of the bytes left
module _ (list rest : List ℕ) (passed : List WrittenRow) (left : list_rows list ≡ passed ++ list_rows rest) where
  rows_count : length list / 8 ≡ length passed + length rest / 8
  rows_count = sym (tab_length (row_at list) (length list / 8)) ∙ ap length left ∙ length-append passed (list_rows rest) ∙ ap (λ (k : ℕ). length passed + k) (tab_length (row_at rest) (length rest / 8))

  pub rows_fit : (x after : List ℕ) → rest ≡ x ++ after → length x ≡ 8 → length passed + 1 ≤ length list / 8
  rows_fit x after cut whole = omega (arith, rows_count, ap length cut, length-append x after, whole)

  pub rows_next : (x after : List ℕ) → rest ≡ x ++ after → length x ≡ 8 → list_rows list ≡ (passed ++ (row_at x 0 ∷ [])) ++ list_rows after
  rows_next x after cut whole = left ∙ ap (λ (ws : List WrittenRow). passed ++ ws) (ap list_rows cut ∙ rows_front x after whole) ∙ sym (append_assoc passed (row_at x 0 ∷ []) (list_rows after))

  -- where fewer bytes are left than a row has, all are passed
  pub rows_end : length rest < 8 → passed ≡ list_rows list
  rows_end h = sym (left ∙ ap (λ (ws : List WrittenRow). passed ++ ws) (rows_none rest h) ∙ append-nil passed)

-- the three numbers of row k of a list in bytes
pub row_numbers_lem : (b : List ℕ) (k : ℕ) → numbers_at b (4 * k + 1) 3 ≡ number_at b (4 * k + 1) ∷ number_at b (4 * k + 2) ∷ number_at b (4 * k + 3) ∷ []
unfolding tab
row_numbers_lem b k =
    let e0 : 4 * k + 1 + 0 ≡ 4 * k + 1 = omega arith in
    let e1 : 4 * k + 1 + 1 ≡ 4 * k + 2 = omega arith in
    let e2 : 4 * k + 1 + 2 ≡ 4 * k + 3 = omega arith in
    rw (e0, e1, e2)

-- a row is its letter, a comma, and three fields
pub puts_row : (out : List ℕ) (at : ℕ) (w : WrittenRow) (x n1 : ℕ) (l1 : List ℕ) (n2 : ℕ) (l2 : List ℕ) (n3 : ℕ) (l3 : List ℕ) → x ≡ letter_of w.kind
    → PutsText (set (set out at x) (at + 1) 44) (at + 2) (digits w.first ++ (44 ∷ [])) n1 l1 → PutsText l1 n1 (digits w.second ++ (44 ∷ [])) n2 l2 → PutsText l2 n2 (digits w.power ++ (10 ∷ [])) n3 l3
    → PutsText out at (row_line w) n3 l3
puts_row out at w x n1 l1 n2 l2 n3 l3 e p q r =
    let a : List ℕ = x ∷ 44 ∷ [] in
    let b : List ℕ = digits w.first ++ (44 ∷ []) in
    let c : List ℕ = digits w.second ++ (44 ∷ []) in
    puts_as out at (((a ++ b) ++ c) ++ (digits w.power ++ (10 ∷ []))) (row_line w) n3 l3 (ap (λ (y : ℕ). (y ∷ 44 ∷ (b ++ c)) ++ (digits w.power ++ (10 ∷ []))) e ∙ ap (λ (l : List ℕ). (letter_of w.kind ∷ 44 ∷ l) ++ (digits w.power ++ (10 ∷ []))) (append_assoc (digits w.first) (44 ∷ []) c) ∙ row_text w)
    (puts_more out at ((a ++ b) ++ c) (digits w.power ++ (10 ∷ [])) n2 l2 n3 l3
    (puts_more out at (a ++ b) c n1 l1 n2 l2 (puts_more out at a b (at + 2) (set (set out at x) (at + 1) 44) n1 l1 (puts_two out at x 44) p) q) r)
