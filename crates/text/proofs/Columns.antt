-- The columns of a tableau's bytes, taken one after the other. Assumes nothing.
use mathlib.Core.Path.{◌≡◌, refl, sym, ap, ap₂, ◌∙◌}
use mathlib.Core.List.{List, ◌++◌}
use Prim.Native.Nat.{ℕ, ◌+◌, ◌*◌, ◌-◌, ◌/◌, ◌≤◌, ◌<◌}
use native.Mathlib.Nat.{zero-mul, mul-le-mul_right}
use native.Mathlib.Omega.{arith}
use lib.ListN.{length, get_or, take, drop, length-drop, length-append, get_or-append}
use lib.Seq.{length-take-le, get_or-take, get_or-drop, drop-drop, drop_at}
use Rattle.arith.specs.Bytes.{tab, number_at, numbers_at}
use Rattle.arith.proofs.Bytes.{tab_ext}
use Rattle.arith.proofs.Cases.{by_less}
use Rattle.text.specs.Inner.Prints.{all_numbers}

-- the bytes that are left of `count` columns of m numbers once i of them are taken
abbrev pub left_of : List ℕ → ℕ → ℕ → ℕ → List ℕ
left_of b m count i = drop (2 * (i * m)) (take (2 * (count * m)) b)

pub record Left (b : List ℕ) (m count i : ℕ) (rest : List ℕ) : Type 0 where
  pub some : i ≤ count
  pub same : rest ≡ left_of b m count i

-- none is taken yet
pub left_all : (b : List ℕ) (m count : ℕ) {rest : List ℕ} → rest ≡ take (2 * (count * m)) b → Left b m count 0 rest
left_all b m count e = record { some = omega arith; same = e ∙ ap (λ (k : ℕ). drop (2 * k) (take (2 * (count * m)) b)) (sym (zero-mul m)) }

module _ (b : List ℕ) (m count i : ℕ) {rest : List ℕ} (some : 0 < m) (inside : 2 * (count * m) ≤ length b) (left : Left b m count i rest) where
  left_length : length rest ≡ 2 * (count * m) - 2 * (i * m)
  left_length = omega (arith, ap length left.same, length-drop (2 * (i * m)) (take (2 * (count * m)) b), length-take-le (2 * (count * m)) b inside)

  left_more : 2 * m ≤ length rest → i + 1 ≤ count
  left_more h = by_less i count (λ l. omega arith) (λ l. absurd (omega (arith, left_length, mul-le-mul_right m l)))

  -- where fewer bytes are left than a column has, all are taken
  pub all_taken : length rest < 2 * m → i ≡ count
  all_taken h = by_less i count (λ l. let q : i + 1 ≤ count = omega arith in absurd (omega (arith, left_length, mul-le-mul_right m q))) (λ l. omega (arith, left.some))

  -- the next column, and what is left after it
  module _ (column after : List ℕ) (cut : rest ≡ column ++ after) (whole : length column ≡ 2 * m) where
    pub column_fits : i * m + m ≤ count * m
    column_fits = omega (arith, left_length, ap length cut, length-append column after)

    pub left_next : Left b m count (i + 1) after
    left_next =
        let e : 2 * (i * m) + length column ≡ 2 * ((i + 1) * m) = omega arith in record {
          some = left_more (omega (arith, ap length cut, length-append column after));
          same = sym (drop_at column after (length column) refl) ∙ ap (drop (length column)) (sym cut ∙ left.same) ∙ drop-drop (length column) (2 * (i * m)) (take (2 * (count * m)) b)
              ∙ ap (λ (k : ℕ). drop k (take (2 * (count * m)) b)) e;
        }

    byte_same : (j : ℕ) → j < 2 * m → get_or column j 0 ≡ get_or b (2 * (i * m) + j) 0
    byte_same j h =
        sym (get_or-append column after 0 j (omega arith)) ∙ ap (λ (l : List ℕ). get_or l j 0) (sym cut ∙ left.same) ∙ get_or-drop (2 * (i * m)) (take (2 * (count * m)) b) j 0
        ∙ get_or-take (2 * (count * m)) b (2 * (i * m) + j) 0 (omega (arith, column_fits))

    number_same : (k : ℕ) → k < m → number_at column k ≡ number_at b (i * m + k)
    unfolding number_at
    number_same k h =
        let e : 2 * (i * m) + 2 * k ≡ 2 * (i * m + k) = omega arith in
        let f : 2 * (i * m) + (2 * k + 1) ≡ 2 * (i * m + k) + 1 = omega arith in
        ap₂ (λ (x y : ℕ). x + 256 * y) (byte_same (2 * k) (omega arith) ∙ ap (λ (j : ℕ). get_or b j 0) e) (byte_same (2 * k + 1) (omega arith) ∙ ap (λ (j : ℕ). get_or b j 0) f)

    pub column_same : all_numbers column ≡ numbers_at b (i * m) m
    column_same =
        let e : length column / 2 ≡ m = omega arith in
        ap (tab (number_at column)) e ∙ tab_ext (number_at column) (λ k. number_at b (i * m + k)) m number_same
