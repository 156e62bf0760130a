-- What the text program prints for a T file: a list that does the tableau, or a refusal. Assumes nothing.
use mathlib.Core.Path.{◌≡◌, sym, ap, ap₂, subst, ◌∙◌}
use mathlib.Core.Logic.{◌↔◌, ◌⊎◌, inl, inr, ◌≢◌}
use mathlib.Core.Bool.{Bool, true, false}
use mathlib.Core.List.{List, [], ◌∷◌, ◌++◌, map, append-nil}
use Rattle.std.specs.Prelude.{Result, Ok, Err}
use Prim.Native.Nat.{ℕ, ◌+◌, ◌*◌, ◌≤◌}
use native.Mathlib.Omega.{arith}
use lib.ListN.{length, take, length-map, length-append}
use lib.Seq.{take_at, drop_at}
use borrow.Author.Rules.{rules}
use Rattle.arith.specs.Bytes.{tab, number_at, numbers_at, bytes_of}
use Rattle.arith.specs.declared.checks.Refusal.{Refusal}
use Rattle.arith.specs.declared.checks.Refusal.TheVariants.{Length}
use Rattle.arith.specs.Refusals.{refusal_number, number_of, or_else, given_of, size_of, room_of, unless_holds}
use Rattle.arith.specs.declared.checks.Answer.{Answer}
use Rattle.arith.proofs.Bytes.{tab_ext, tab_length, tab_map, bytes_length}
use Rattle.arith.proofs.Refusals.{Given, good, stop, not_zero, or_else_none, or_else_past, or_else_assoc, given_good, size_good, held, both_held}
use Rattle.arith.proofs.Passes.{size_passes, room_passes}
use Rattle.pauli.specs.Pauli.{Pauli}
use Rattle.pauli.specs.Bytes.{numbers_of, decode_at}
use Rattle.pauli.proofs.Encoding.{numbers_decoded}
use Rattle.gates.specs.Row.{Row, F, S, A, M, X, Z, C, W, Legal}
use Rattle.gates.specs.Written.{WrittenRow, written, meant, legal_row, all_rows, all_legal_rows, list_rows}
use Rattle.gates.proofs.Written.{written_meant, legal_meant}
use Rattle.tableau.specs.Bytes.{tableau_bytes, column_at, decode_tableau}
use Rattle.tableau.specs.Range.{tableau_range_of}
use Rattle.tableau.specs.Soundness.{soundness_of}
use Rattle.synthesis.specs.Demand3.{Realisable, malformed_of, synthesis_refusal, handed, Synthesised}
use Rattle.synthesis.proofs.Handed.{accepted_given, square_small}
use Rattle.text.specs.Format.{digits, line, list_file, header, row_line, concatenated, Every, RowFits, print_file, print_refusal}
use Rattle.text.specs.Inner.Prints.{columns_at}
use Rattle.text.specs.Convert.{full_columns, pauli_of, counts_of, columns_malformed, columns_refusal, PrintsList}
use Rattle.text.specs.Inner.FromBytes.{TableauConverts, ColumnsConvert}
use Rattle.text.proofs.Digits.{five_digits}
use Rattle.text.proofs.Back.{full_length, columns_back}
use Rattle.text.proofs.Unique.{refusal_unique, refusal_no_list}

-- ---- a Pauli's numbers are read as the Pauli again
pub pauli_numbers : (n : ℕ) (p : Pauli) → length p.v ≡ n → pauli_of n (numbers_of p) ≡ p
pauli_numbers n p e = ap₂ (λ (x y : List ℕ). record { phase = p.phase; v = x; w = y }) (take_at p.v p.w n e) (drop_at p.v p.w n e)

-- ---- the tableau in the bytes is that of the columns
module _ (n k : ℕ) (b : List ℕ) where
  pauli_decoded : pauli_of n (numbers_at b k (1 + 2 * n)) ≡ decode_at n k b
  pauli_decoded = ap (pauli_of n) (sym (numbers_decoded n k b)) ∙ pauli_numbers n (decode_at n k b) (tab_length (λ i. number_at b (k + 1 + i)) n)

tableau_decoded : (n : ℕ) (b : List ℕ) → map (pauli_of n) (columns_at b (1 + 2 * n) (2 * n)) ≡ decode_tableau n b
unfolding decode_tableau
tableau_decoded n b =
    tab_map (pauli_of n) (λ j. numbers_at b (j * (1 + 2 * n)) (1 + 2 * n)) (2 * n)
    ∙ tab_ext (λ j. pauli_of n (numbers_at b (j * (1 + 2 * n)) (1 + 2 * n))) (λ j. column_at n j b) (2 * n) (λ j h. pauli_decoded n (j * (1 + 2 * n)) b)

columns_decoded : (n : ℕ) (columns : List (List ℕ)) → full_columns n columns ≡ true → length columns ≡ 2 * n → decode_tableau n (bytes_of (concatenated (λ (c : List ℕ). c) columns)) ≡ map (pauli_of n) columns
columns_decoded n columns f e =
    let b : List ℕ = bytes_of (concatenated (λ (c : List ℕ). c) columns) in
    sym (tableau_decoded n b)
    ∙ ap (map (pauli_of n)) (ap (columns_at b (1 + 2 * n)) (sym e) ∙ ap (λ (l : List ℕ). columns_at l (1 + 2 * n) (length columns)) (sym (append-nil b)) ∙ columns_back n columns [] f)

-- ---- the counts
counts_good : (n count : ℕ) (full : Bool) → counts_of n count full ≡ 0 → (full ≡ true) × (count ≡ 2 * n)
unfolding counts_of
counts_good n count full e = let z = or_else_none (unless_holds Length full) (size_of (2 * n) count) e in (held Length full z.0, size_good z.1)

pub counts_hold : (n count : ℕ) (full : Bool) → full ≡ true → count ≡ 2 * n → counts_of n count full ≡ 0
unfolding counts_of
counts_hold n count full e f = rw e (size_passes {want = 2 * n} {have = count} f)

pub counts_full : (n count : ℕ) (full : Bool) (r : ℕ) → full ≡ true → r ≡ size_of (2 * n) count → r ≡ counts_of n count full
unfolding counts_of
counts_full n count full r e f = rw e f

pub counts_short : (n count : ℕ) (full : Bool) → full ≡ false → refusal_number Length ≡ counts_of n count full
unfolding counts_of
counts_short n count full e = rw e

-- ---- the refusals of a tableau are those of its columns
module _ (d n : ℕ) (bytes : List ℕ) (columns : List (List ℕ)) (full : full_columns n columns ≡ true) (many : length columns ≡ 2 * n) (same : bytes ≡ bytes_of (concatenated (λ (c : List ℕ). c) columns)) where
  sized : length bytes ≡ tableau_bytes n
  sized = ap length same ∙ bytes_length (concatenated (λ (c : List ℕ). c) columns) ∙ ap (λ (k : ℕ). 2 * k) (full_length n columns full ∙ ap (λ (k : ℕ). k * (1 + 2 * n)) many)

  decoded : decode_tableau n bytes ≡ map (pauli_of n) columns
  decoded = ap (decode_tableau n) same ∙ columns_decoded n columns full many

  malformed_same : (room : ℕ) → 11008 ≤ room → malformed_of d n bytes room ≡ columns_malformed d n columns
  malformed_same room large = or_else_past (given_of d n) (λ e. rest (given_good e).width.n_high)
    where
      rest : n ≤ 16 → or_else (size_of (tableau_bytes n) (length bytes)) (or_else (room_of (40 * (n * n) + 48 * n) room) (tableau_range_of d (decode_tableau n bytes)))
          ≡ or_else (counts_of n (length columns) (full_columns n columns)) (tableau_range_of d (map (pauli_of n) columns))
      rest h = rw (size_passes {want = tableau_bytes n} {have = length bytes} sized, room_passes {want = 40 * (n * n) + 48 * n} {have = room} (omega (arith, large, square_small n h)), decoded, counts_hold n (length columns) (full_columns n columns) full many)

  refusal_same : (room : ℕ) → 11008 ≤ room → synthesis_refusal d n bytes room ≡ columns_refusal d n columns
  refusal_same room large = ap₂ or_else (malformed_same room large) (ap (soundness_of d n) decoded)

-- ---- legal rows fit the format, and are few bytes
legal_fits : (d n : ℕ) (w : WrittenRow) (r : Row) → d ≤ 1024 → n ≤ 16 → w ≡ written r → Legal d n r → RowFits w
legal_fits d n w r hd hn e l = rw e (fits r l)
  where
    fits : (r : Row) → Legal d n r → RowFits (written r)
    fits (F i k) l = omega (arith, l)
    fits (S i k) l = omega (arith, l)
    fits (A i j k) l = omega (arith, l.0, l.1)
    fits (M i k) l = omega (arith, l.1)
    fits (X i k) l = omega (arith, l)
    fits (Z i k) l = omega (arith, l)
    fits (C i j k) l = omega (arith, l.0, l.1)
    fits (W i j) l = omega (arith, l)

rows_fit : (d n : ℕ) (rows : List WrittenRow) → d ≤ 1024 → n ≤ 16 → all_legal_rows d n rows ≡ true → Every RowFits rows
unfolding all_rows Every
rows_fit d n [] hd hn e = search rules
rows_fit d n (w ∷ ws) hd hn e =
    let b = both_held (legal_row d n w) (all_legal_rows d n ws) e in
    (legal_fits d n w (meant w) hd hn (sym (written_meant d n w b.0)) (legal_meant d n w b.0), rows_fit d n ws hd hn b.1)

pub field_length : (x : ℕ) (rest : List ℕ) → x ≤ 65535 → length (digits x ++ rest) ≤ 5 + length rest
field_length x rest h = omega (arith, length-append (digits x) rest, five_digits x h)

row_length : (r : WrittenRow) → RowFits r → length (row_line r) ≤ 20
unfolding line
row_length r f =
    let c : List ℕ = digits r.power ++ (10 ∷ []) in
    let b : List ℕ = digits r.second ++ (44 ∷ c) in
    omega (arith, field_length r.power (10 ∷ []) f.1.1.1, field_length r.second (44 ∷ c) f.1.1.0, field_length r.first (44 ∷ b) f.1.0)

rows_length : (rows : List WrittenRow) → Every RowFits rows → length (concatenated row_line rows) ≤ 20 * length rows
unfolding concatenated Every
rows_length [] f = omega arith
rows_length (r ∷ rs) f = omega (arith, length-append (row_line r) (concatenated row_line rs), row_length r f.0, rows_length rs f.1)

list_length : (d n : ℕ) (rows : List WrittenRow) → d ≤ 65535 → n ≤ 65535 → Every RowFits rows → length (print_file (list_file d n rows)) ≤ 14 + 20 * length rows
unfolding line
list_length d n rows hd hn f =
    let c : List ℕ = digits n ++ (10 ∷ []) in
    omega (arith, length-append (header 76 d n) (concatenated row_line rows), field_length n (10 ∷ []) hn, field_length d (44 ∷ c) hd, rows_length rows f)

-- ---- what is printed
-- the counts are wrong, or 1 or 2
pub columns_refused : (d n count : ℕ) (full : Bool) (numbers : List ℕ) {A : Type 0} {r : Result A Refusal} {k : Refusal} {output : List ℕ} → number_of r ≡ or_else (given_of d n) (counts_of n count full) → r ≡ Err k
    → output ≡ print_refusal (number_of r) → ColumnsConvert d n count full numbers output
columns_refused d n count full numbers {output = output} e f p = λ columns rest c q same.
    let x = or_else (given_of d n) (counts_of n count full) in
    let t = map (pauli_of n) columns in
    let y = or_else (tableau_range_of d t) (soundness_of d n t) in
    let some : x ≢ 0 = λ o. not_zero (e ∙ o) f in
    let m : columns_malformed d n columns ≡ or_else x (tableau_range_of d t)
    = sym (or_else_assoc (given_of d n) (counts_of n count full) (tableau_range_of d t) ∙ ap₂ (λ (k : ℕ) (b : Bool). or_else (given_of d n) (or_else (counts_of n k b) (tableau_range_of d t))) c q) in
    let z : columns_refusal d n columns ≡ or_else x y = ap (λ (k : ℕ). or_else k (soundness_of d n t)) m ∙ or_else_assoc x (tableau_range_of d t) (soundness_of d n t) in
    record {
      refused = λ r. p ∙ ap print_refusal ((stop x y e f).same ∙ sym z);
      accepted = λ r. absurd (some (or_else_none x y (sym z ∙ r)).0);
      unrealisable = λ r. absurd (some (or_else_none x (tableau_range_of d t) (sym m ∙ r)).0);
    }

-- past the counts: the bytes at the buffer's front are the tableau's
pub columns_passed : (d n count : ℕ) (full : Bool) {A : Type 0} {r : Result A Refusal} {m : A} → number_of r ≡ or_else (given_of d n) (counts_of n count full) → r ≡ Ok m → Given d n × ((full ≡ true) × (count ≡ 2 * n))
columns_passed d n count full e f =
    let z = or_else_none (given_of d n) (counts_of n count full) (good _ e f) in
    (given_good z.0, counts_good n count full z.1)

pub columns_bytes : (n count room : ℕ) → count ≡ 2 * n → 2 * (count * (1 + 2 * n)) ≤ room → 2 * (2 * n * (1 + 2 * n)) ≤ room
columns_bytes n count room e h = rw e at h

pub columns_tableau : (d n count : ℕ) (full : Bool) (numbers output : List ℕ) → full ≡ true → count ≡ 2 * n → TableauConverts d n (take (2 * (2 * n * (1 + 2 * n))) numbers) output
    → ColumnsConvert d n count full numbers output
columns_tableau d n count full numbers output f m h = λ columns rest c q same.
    let all : List ℕ = concatenated (λ (x : List ℕ). x) columns in
    let g : full_columns n columns ≡ true = sym q ∙ f in
    let k : length columns ≡ 2 * n = sym c ∙ m in
    let l : length (bytes_of all) ≡ 2 * (2 * n * (1 + 2 * n)) = bytes_length all ∙ ap (λ (x : ℕ). 2 * x) (full_length n columns g ∙ ap (λ (x : ℕ). x * (1 + 2 * n)) k) in
    h columns g k (ap (take (2 * (2 * n * (1 + 2 * n)))) same ∙ take_at (bytes_of all) rest (2 * (2 * n * (1 + 2 * n))) l)

-- where the call's answer is a
module _ (d n : ℕ) (tableau old new : List ℕ) (a : Answer) (s : Synthesised d n tableau old new a) where
  -- `R,7` and `R,8` are printed where the call's number is 7 or 8
  told : (columns : List (List ℕ)) → full_columns n columns ≡ true → length columns ≡ 2 * n → tableau ≡ bytes_of (concatenated (λ (c : List ℕ). c) columns) → {output : List ℕ} → 11008 ≤ length old
      → ((j : ℕ) → j ≢ 0 → (output ≡ print_refusal j) ↔ (a.number ≡ j))
      → columns_malformed d n columns ≡ 0 → ((output ≡ print_refusal 7) ⊎ (output ≡ print_refusal 8)) ↔ ¬ Realisable d n (map (pauli_of n) columns)
  told columns f m same {output} h says z =
      let u = rw (decoded d n tableau columns f m same) at (s.unrealisable (malformed_same d n tableau columns f m same (length old) h ∙ z)) in
      (λ p. u.0 (there p), λ r. back (u.1 r))
    where
      seven : (output ≡ print_refusal 7) ↔ (a.number ≡ 7)
      seven = says 7 (λ e. omega arith)

      eight : (output ≡ print_refusal 8) ↔ (a.number ≡ 8)
      eight = says 8 (λ e. omega arith)

      there : (output ≡ print_refusal 7) ⊎ (output ≡ print_refusal 8) → (a.number ≡ 7) ⊎ (a.number ≡ 8)
      there (inl e) = inl (seven.0 e)
      there (inr e) = inr (eight.0 e)

      back : (a.number ≡ 7) ⊎ (a.number ≡ 8) → (output ≡ print_refusal 7) ⊎ (output ≡ print_refusal 8)
      back (inl e) = inl (seven.1 e)
      back (inr e) = inr (eight.1 e)

  pub tableau_refused : {output : List ℕ} → 11008 ≤ length old → a.number ≢ 0 → output ≡ print_refusal a.number → TableauConverts d n tableau output
  tableau_refused h z p = λ columns f m same.
      let e : a.number ≡ columns_refusal d n columns = s.number ∙ refusal_same d n tableau columns f m same (length old) h in
      record {
        refused = λ r. p ∙ ap print_refusal e;
        accepted = λ r. absurd (z (e ∙ r));
        unrealisable = told columns f m same h (λ j l. (λ q. refusal_unique a.number j (sym p ∙ q), λ q. p ∙ ap print_refusal q));
      }

  -- the list's bytes are there, and few
  pub list_few : a.number ≡ 0 → a.value ≤ 1376
  list_few z =
      let g = (accepted_given d n tableau (length old) (sym s.number ∙ z)).0 in
      omega (arith, (s.list z).short, square_small n g.width.n_high, g.width.n_high)

  -- the list
  pub tableau_printed : {output : List ℕ} → 11008 ≤ length old → a.number ≡ 0 → output ≡ print_file (list_file d n (list_rows (handed a.value new))) → TableauConverts d n tableau output
  tableau_printed {output} h z p = λ columns f m same. record {
    refused = λ r. absurd (r (sym (refusal_same d n tableau columns f m same (length old) h) ∙ sym s.number ∙ z));
    accepted = λ r. subst (λ (t : List Pauli). PrintsList d n t output) (decoded d n tableau columns f m same) list;
    unrealisable = told columns f m same h (λ j l. (λ q. absurd (refusal_no_list j d n _ (sym p ∙ q)), λ q. absurd (l (sym q ∙ z))));
  }
    where
      rows : List WrittenRow
      rows = list_rows (handed a.value new)

      count : length rows ≡ a.value
      count = sym (length-map (list_rows (handed a.value new)) meant) ∙ (s.list z).counted

      list : PrintsList d n (decode_tableau n tableau) output
      list =
          let g = (accepted_given d n tableau (length old) (sym s.number ∙ z)).0 in
          let fits = rows_fit d n rows g.dimension.d_high g.width.n_high (s.list z).legal in
          let short : length output ≤ 65536 = omega (arith, ap length p, list_length d n rows (omega (arith, g.dimension)) (omega (arith, g.width)) fits, count, list_few z) in
          record {
            rows = rows;
            laid = (short, (((omega (arith, g.dimension), omega (arith, g.width)), fits), p));
            legal = (s.list z).legal;
            short = omega (arith, count, (s.list z).short);
            realises = (s.list z).realises;
            images = (s.list z).images;
          }
