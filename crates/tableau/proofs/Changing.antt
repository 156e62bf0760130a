-- The columns that a row changes, as the bits of a word: the word is made column by column, and the loop that puts the row behind them goes from one set bit to the next. Assumes nothing.
use mathlib.Core.Path.{◌≡◌, refl, sym, ap, subst, ◌∙◌}
use mathlib.Core.Bool.{Bool, true, false, cond}
use mathlib.Core.List.{List, [], ◌∷◌, map, map-append}
use Prim.Native.Nat.{ℕ, suc, ◌+◌, ◌*◌, ◌-◌, ◌/◌, ◌%◌, ◌^◌, ◌≤◌, ◌<◌}
use native.Mathlib.Omega.{arith}
use lib.Bits.{bit_or}
use lib.Count.{count_trailing_zeros}
use lib.ListN.{length, get_or, set, drop, length-drop, length-map}
use lib.Seq.{get_or-drop, drop-drop}
use Rattle.std.proofs.lemmas.List.{get_or-map}
use Rattle.arith.specs.Bytes.{tab}
use Rattle.arith.proofs.Bytes.{tab_more, tab_length, tab_map}
use Rattle.arith.proofs.Cases.{by_less}
use Rattle.pauli.specs.Pauli.{Pauli, Below, none, more, phase_only}
use Rattle.pauli.specs.Support.{word_of}
use Rattle.pauli.specs.Inner.Touched.{Touched, touched, still, replaced}
use Rattle.pauli.proofs.Lists.{drop_below}
use Rattle.pauli.proofs.Words.{word_or, Lowest, word_lowest, word_empty}
use Rattle.gates.specs.Row.{apply}
use Rattle.gates.specs.Written.{WrittenRow, meant, legal_row}
use Rattle.gates.specs.Inner.View.{other_of, Acts}
use Rattle.gates.proofs.Written.{legal_first}
use Rattle.gates.proofs.Acts.{legal_other, acts_not}
use Rattle.tableau.specs.Tableau.{column}
use Rattle.tableau.specs.declared.column.Column.{Column}
use Rattle.tableau.specs.declared.column.Table.{Table}
use Rattle.tableau.specs.Inner.View.{column_view, table_view}
use Rattle.tableau.specs.Inner.Changing.{changes, changing}
use Rattle.tableau.proofs.Views.{Changed, changed_more, view_map, table_length, column_has}

-- ---- the bit of a column
module _ (d i j : ℕ) where
  changes_below : (p : Pauli) → changes d i j p < 2
  changes_below p = by_still (still d (touched i j p))
    where
      by_still : (b : Bool) → cond b 0 1 < 2
      by_still true = omega arith
      by_still false = omega arith

  changes_not : (p : Pauli) → changes d i j p ≡ 0 → still d (touched i j p) ≡ true
  changes_not p e = by_still (still d (touched i j p)) e
    where
      by_still : (b : Bool) → ◌≡◌ {A = ℕ} (cond b 0 1) 0 → b ≡ true
      by_still true e = refl
      by_still false e = absurd (omega arith)

  changing_below : (t : List Pauli) → Below 2 (changing d i j t)
  changing_below [] = none
  changing_below (p ∷ t) = more (changes_below p) (changing_below t)

  -- one more column
  pub changing_more : (f : ℕ → Pauli) (c : ℕ) {word r : ℕ} → c < 32 → word ≡ word_of (changing d i j (tab f c)) → r ≡ changes d i j (f c) → bit_or word (r * 2 ^ c % 2 ^ 32) ≡ word_of (changing d i j (tab f (c + 1)))
  changing_more f c l e q = rw (e, q) (word_or 32 (changes d i j (f c)) (changing_below (tab f c)) (changes_below (f c)) (ap length (tab_map (changes d i j) f c) ∙ tab_length (λ k. changes d i j (f k)) c) l
      ∙ sym (ap word_of (ap (changing d i j) (tab_more f c) ∙ map-append (changes d i j) (tab f c) (f c ∷ []))))

-- ---- the loop: f is what the row makes of a column
module _ (d n i j : ℕ) (f : Pauli → Pauli) (old : Table) where
  abbrev bits : List ℕ
  bits = changing d i j (table_view n old)

  bit_at : {k : ℕ} → k < 2 * n → get_or bits k 0 ≡ changes d i j (column n (table_view n old) k)
  bit_at {k} h = get_or-map (changes d i j) (table_view n old) k (phase_only n 0) 0 (omega (arith, table_length n old))

  -- bit k, in the bits from `at` on
  bit_from : {at k : ℕ} → at ≤ k → get_or (drop at bits) (k - at) 0 ≡ get_or bits k 0
  bit_from {at} {k} l = let e : at + (k - at) ≡ k = omega arith in get_or-drop at bits (k - at) 0 ∙ ap (λ (m : ℕ). get_or bits m 0) e

  bits_from : (at : ℕ) → length (drop at bits) ≡ 2 * n - at
  bits_from at = length-drop at bits ∙ ap (λ (m : ℕ). m - at) (length-map (table_view n old) (changes d i j) ∙ table_length n old)

  below_from : (at : ℕ) → Below 2 (drop at bits)
  below_from at = drop_below at (changing_below d i j (table_view n old))

  -- f leaves those alone whose bit is 0
  abbrev pub Resting : Type 0
  Resting = (p : Pauli) → still d (touched i j p) ≡ true → f p ≡ p

  abbrev pub Behind : ℕ → Pauli → Type 0
  Behind k p = p ≡ f (column n (table_view n old) k)

  -- so that the row is behind them as they are
  skip : {at to : ℕ} {new : Table} → Resting → to ≤ 2 * n → ((k : ℕ) → at ≤ k → k < to → get_or bits k 0 ≡ 0) → at ≤ to → Changed n Behind at old new → Changed n Behind to old new
  skip {at} {to} {new} rests h zeros l c = record {
    done = λ k m. by_less k at (c.done k)
        (λ g. c.left k g ∙ sym (rests (column n (table_view n old) k) (changes_not d i j (column n (table_view n old) k) (sym (bit_at (omega arith)) ∙ zeros k g m))));
    left = λ k m. c.left k (omega arith);
  }

  -- `rest` is the word of the bits from `at` on, and the row is behind the columns before
  pub record Going (rest at : ℕ) (new : Table) : Type 0 where
    pub within : at ≤ 2 * n
    pub left : rest ≡ word_of (drop at bits)
    pub columns : Changed n Behind at old new

  -- the column of the lowest bit that is set
  pub record Next (rest at : ℕ) (new : Table) : Type 0 where
    pub inside : at + count_trailing_zeros 32 rest < 2 * n
    pub columns : Changed n Behind (at + count_trailing_zeros 32 rest) old new
    pub above : rest / 2 ^ count_trailing_zeros 32 rest / 2 ≡ word_of (drop (at + count_trailing_zeros 32 rest + 1) bits)

  pub going_next : {rest at : ℕ} {new : Table} → Resting → n ≤ 16 → 0 < rest → Going rest at new → Next rest at new
  going_next {rest} {at} {new} rests small pos g = rw g.left (from (word_lowest 32 (below_from at) (omega (arith, bits_from at)) (rw g.left at pos)))
    where
      from : Lowest 32 (drop at bits) → Next (word_of (drop at bits)) at new
      from low =
          let z = count_trailing_zeros 32 (word_of (drop at bits)) in
          let to : at + suc z ≡ at + z + 1 = omega arith in
          record {
            inside = omega (arith, low.inside, bits_from at);
            columns = skip rests (omega (arith, low.inside, bits_from at)) (λ k l m. sym (bit_from l) ∙ low.zeros (k - at) (omega arith)) (omega arith) g.columns;
            above = low.above ∙ ap word_of (drop-drop (suc z) at bits ∙ ap (λ (m : ℕ). drop m bits) to);
          }

  pub going_more : {rest at : ℕ} (new : Table) (c : Column) (size : length (set new.columns (at + count_trailing_zeros 32 rest) c) ≡ 32) → n ≤ 16 → Next rest at new → Behind (at + count_trailing_zeros 32 rest) (column_view n c)
      → Going (rest / 2 ^ count_trailing_zeros 32 rest / 2) (at + count_trailing_zeros 32 rest + 1) (record { columns = set new.columns (at + count_trailing_zeros 32 rest) c; size = size })
  going_more new c size small m p = record { within = omega (arith, m.inside); left = m.above; columns = changed_more n Behind _ new c size m.inside (omega (arith, m.inside)) p m.columns }

  -- no bit is left
  pub going_end : {rest at : ℕ} {new : Table} → Resting → rest ≡ 0 → Going rest at new → table_view n new ≡ map f (table_view n old)
  going_end {rest} {at} {new} rests e g =
      let all = skip rests (omega arith) (λ k l m. sym (bit_from l) ∙ word_empty (below_from at) (sym g.left ∙ e) (k - at)) g.within g.columns in
      view_map n old new f (λ c h. all.done c h)

-- ---- a legal row put behind a column; j is its second qudit, or the first again
module _ (d n : ℕ) (w : WrittenRow) (legal : legal_row d n w ≡ true) {j : ℕ} (e : j ≡ other_of w) where
  pub row_qudits : (w.first - 1 < n) × (j < n)
  row_qudits = let f = legal_first d n w legal in (omega arith, rw e (legal_other d n w legal))

  pub row_behind : (c : Column) {old new : Touched} {q : Pauli} → Acts d w old new → touched (w.first - 1) j (column_view n c) ≡ old → q ≡ replaced (w.first - 1) j new (column_view n c) → q ≡ apply d (meant w) (column_view n c)
  row_behind c {old} {new} acts read put =
      let p = column_view n c in
      put ∙ ap (λ (k : ℕ). replaced (w.first - 1) k new p) e
      ∙ sym (acts p (column_has n c row_qudits.0) (column_has n c (legal_other d n w legal)) (subst (λ (k : ℕ). touched (w.first - 1) k p ≡ old) e read))

  -- it leaves a column alone that is still
  pub row_rests : (p : Pauli) → still d (touched (w.first - 1) j p) ≡ true → apply d (meant w) p ≡ p
  row_rests p h = acts_not d n w p legal (subst (λ (k : ℕ). still d (touched (w.first - 1) k p) ≡ true) e h)

  -- the column that is next in the loop
  pub row_next : {old new : Table} {rest at : ℕ} → n ≤ 16 → 0 < rest → Going d n (w.first - 1) j (apply d (meant w)) old rest at new → Next d n (w.first - 1) j (apply d (meant w)) old rest at new
  row_next small pos g = going_next d n (w.first - 1) j (apply d (meant w)) _ row_rests small pos g
