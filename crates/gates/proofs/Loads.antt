-- A load: what draws make is a legal row, whatever they are, so that every load is legal; and the loop that writes one. Assumes nothing.
use mathlib.Core.Path.{◌≡◌, refl, sym, ap, ap₂, ◌∙◌, subst}
use mathlib.Core.Logic.{◌≢◌}
use mathlib.Core.List.{List, [], ◌∷◌, ◌++◌, append_assoc}
use mathlib.Core.Bool.{Bool, true, false, not, ◌&&◌, cond, true≢false}
use Prim.Native.Nat.{ℕ, zero, suc, ◌+◌, ◌*◌, ◌-◌, ◌%◌, ◌≤◌, ◌<◌}
use native.Mathlib.Nat.{zero-add, mod-lt, le_of_suc-le-suc, not-suc-le-zero}
use native.Mathlib.Omega.{arith}
use lib.ListN.{length, take, drop}
use lib.Seq.{sets, take_at}
use lib.Dec.{eqb, eqb→eq}
use borrow.Author.Tests.{eq-eqb, eqb-false, ne_eqb}
use Rattle.std.proofs.lemmas.Bool.{and_from}
use Rattle.arith.proofs.Cases.{by_eq, eqb_case, ltb_case}
use Rattle.arith.proofs.Divides.{dvd_as, dvd_one, dvd_rest}
use Rattle.arith.specs.Bytes.{bytes_of, front}
use Rattle.arith.proofs.Bytes.{write_front}
use Rattle.arith.specs.Gcd.{gcd}
use Rattle.arith.proofs.Gcd.{gcd_left, gcd_right}
use Rattle.arith.proofs.First.{told_true}
use Rattle.arith.proofs.Units.{FirstFrom, first_from_law}
use Rattle.gates.specs.Written.{WrittenRow, highest, takes_two, legal_power, legal_second, legal_row, between, all_rows, all_legal_rows, list_rows, list_numbers, encode_rows}
use Rattle.gates.specs.Load.{RowDraws, row_draws, drawn_kind, drawn_first, raised, drawn_second, unit_from, drawn_power, drawn_row, load_rows}
use Rattle.gates.specs.Calls.{LoadsLegal, load_bytes}
use Rattle.gates.proofs.Written.{by_two, between_holds, all_legal_meant, list_encoded, rows_bytes, row_written}

-- ---- the first unit from k on
-- d − 1 is a unit, so there is one
unit_last : (d : ℕ) → 1 < d → gcd (d - 1) d ≡ 1
unit_last d h = dvd_one (dvd_rest (d - 1) 1 (dvd_as e (gcd_right (d - 1) d)) (gcd_left (d - 1) d))
  where
    e : d ≡ d - 1 + 1
    e = omega arith

module _ (d k : ℕ) (below : k < d) where
  pub unit_here : eqb (gcd k d) 1 ≡ true → unit_from d k ≡ k
  unfolding unit_from
  unit_here e = let m : d - k ≡ suc (d - suc k) = omega arith in rw (m, e) refl

  pub unit_next : eqb (gcd k d) 1 ≡ false → unit_from d (k + 1) ≡ unit_from d k
  unfolding unit_from
  unit_next e = let m : d - k ≡ suc (d - suc k) = omega arith in let s : k + 1 ≡ suc k = omega arith in rw (m, e, s) refl

  pub unit_rises : 1 < d → eqb (gcd k d) 1 ≡ false → k + 1 < d
  unit_rises h e = by_eq k (d - 1) (λ q. absurd (eqb-false (gcd k d) 1 e (ap (λ (x : ℕ). gcd x d) q ∙ unit_last d h))) (λ ne. omega arith)

pub unit_found : (d k : ℕ) → 1 < d → k < d → FirstFrom (λ q. eqb (gcd q d) 1) k d (unit_from d k)
unfolding unit_from
unit_found d k h l =
    let e : k + (d - k) ≡ d = omega arith in
    subst (λ (bound : ℕ). FirstFrom (λ q. eqb (gcd q d) 1) k bound (unit_from d k)) e
    (first_from_law (λ q. eqb (gcd q d) 1) (d - k) k (d - 1) (omega arith) (omega arith) (told_true refl (eq-eqb (gcd (d - 1) d) 1 (unit_last d h))))

-- ---- the kind: 1 to 6, and on one qudit none that takes two
-- kind r + 1 has a power, and takes two only where it is 3
highest_six : (d r : ℕ) → 1 < d → r < 6 → 0 < highest d (1 + r)
highest_six d zero h l = omega arith
highest_six d (suc zero) h l = omega arith
highest_six d (suc (suc zero)) h l = omega arith
highest_six d (suc (suc (suc zero))) h l = omega arith
highest_six d (suc (suc (suc (suc zero)))) h l = omega arith
highest_six d (suc (suc (suc (suc (suc zero))))) h l = omega arith
highest_six d (suc (suc (suc (suc (suc (suc r)))))) h l = absurd (omega arith)

two_six : (r : ℕ) → r < 6 → takes_two (1 + r) ≡ true → 1 + r ≡ 3
two_six r l e = by_two (1 + r) e (λ q. q) (λ q. absurd (omega arith)) (λ q. absurd (omega arith))

module _ (n x : ℕ) where
  kind_highest : (d : ℕ) → 1 < d → 0 < highest d (drawn_kind n x)
  kind_highest d h = tested (eqb n 1 && eqb (1 + x % 6) 3)
    where
      tested : (b : Bool) → 0 < highest d (cond b 1 (1 + x % 6))
      tested true = omega arith
      tested false = highest_six d (x % 6) h (mod-lt x (omega arith))

  pub kind_two : 0 < n → takes_two (drawn_kind n x) ≡ true → 1 < n
  kind_two h e = by_eq n 1 (λ q. absurd (one q)) (λ ne. omega arith)
    where
      one : n ≡ 1 → ⊥
      one q = tested (eqb (1 + x % 6) 3) refl (rw (eq-eqb n 1 q) at e)
        where
          tested : (b : Bool) → eqb (1 + x % 6) 3 ≡ b → takes_two (cond (true && b) 1 (1 + x % 6)) ≡ true → ⊥
          tested true g f = true≢false (sym f)
          tested false g f = eqb-false (1 + x % 6) 3 g (two_six (x % 6) (mod-lt x (omega arith)) f)

-- ---- the row is legal, whatever its draws are
module _ (d n : ℕ) (large : 1 < d) (some : 0 < n) where
  first_legal : (x : ℕ) → between 1 n (drawn_first n x) ≡ true
  first_legal x = between_holds (drawn_first n x) (omega arith) (omega (arith, mod-lt x some))

  -- another qudit than the first, if there are two
  raised_legal : (first x : ℕ) → 1 < n → 1 ≤ first → first ≤ n → (between 1 n (raised first (1 + x % (n - 1))) && not (eqb (raised first (1 + x % (n - 1))) first)) ≡ true
  raised_legal first x two low high = ltb_case (λ b. (between 1 n (cond b j (j + 1)) && not (eqb (cond b j (j + 1)) first)) ≡ true) j first
      (λ l. held j (omega arith) (omega (arith, small)) (omega arith))
      (λ l. held (j + 1) (omega arith) (omega (arith, small)) (omega arith))
    where
      j : ℕ
      j = 1 + x % (n - 1)

      small : j < n
      small = let l : x % (n - 1) < n - 1 = mod-lt x (omega arith) in omega (arith, l)

      held : (k : ℕ) → 1 ≤ k → k ≤ n → k ≢ first → (between 1 n k && not (eqb k first)) ≡ true
      held k a b ne = and_from _ _ (between_holds k a b) (ap not (ne_eqb k first ne))

  second_legal : (kind first x : ℕ) → (takes_two kind ≡ true → 1 < n) → 1 ≤ first → first ≤ n → legal_second n kind first (drawn_second n kind first x) ≡ true
  second_legal kind first x two low high = tested (takes_two kind) two
    where
      tested : (b : Bool) → (b ≡ true → 1 < n) → cond b (between 1 n (cond b (raised first (1 + x % (n - 1))) 0) && not (eqb (cond b (raised first (1 + x % (n - 1))) 0) first)) (eqb (cond b (raised first (1 + x % (n - 1))) 0) 0) ≡ true
      tested true h = raised_legal first x (h refl) low high
      tested false h = refl

  power_legal : (kind x : ℕ) → 0 < highest d kind → legal_power d kind (drawn_power d kind x) ≡ true
  power_legal kind x h = eqb_case (λ b. (between 1 (highest d kind) (cond b (unit_from d k) k) && cond b (eqb (gcd (cond b (unit_from d k) k) d) 1) true) ≡ true) kind 4
      (λ e. let u = unit_found d k large (omega (arith, most, four e)) in and_from _ _ (between_holds (unit_from d k) (omega (arith, u.from)) (omega (arith, u.below, four e))) (eq-eqb (gcd (unit_from d k) d) 1 (eqb→eq (gcd (unit_from d k) d) 1 u.passes)))
      (λ e. and_from _ _ (between_holds k (omega arith) most) refl)
    where
      k : ℕ
      k = 1 + x % highest d kind

      most : k ≤ highest d kind
      most = let l : x % highest d kind < highest d kind = mod-lt x h in omega (arith, l)

      four : kind ≡ 4 → highest d kind ≡ d - 1
      four e = ap (highest d) e

  row_legal : (x : RowDraws) → legal_row d n (drawn_row d n x) ≡ true
  unfolding legal_row drawn_row
  row_legal x = and_from _ _ (power_legal (drawn_kind n x.kind) x.power (kind_highest n x.kind d large))
      (and_from _ _ (first_legal x.first)
      (second_legal (drawn_kind n x.kind) (drawn_first n x.first) x.second (kind_two n x.kind some) (omega arith) (omega (arith, mod-lt x.first some))))

  rows_legal : (seed count : ℕ) → all_legal_rows d n (load_rows d n seed count) ≡ true
  unfolding load_rows all_rows
  rows_legal seed zero = refl
  rows_legal seed (suc count) = and_from _ _ (row_legal (row_draws seed)) (rows_legal (row_draws seed).state count)

  bytes_legal : (seed count : ℕ) → all_legal_rows d n (list_rows (load_bytes d n seed count)) ≡ true
  bytes_legal seed count = ap (all_legal_rows d n) (list_encoded (load_rows d n seed count)) ∙ rows_legal seed count

-- so every list that the rule gives is legal
pub loads_legal : LoadsLegal
loads_legal d n seed count large some = all_legal_meant d n _ (bytes_legal d n large some seed count)

-- ---- the loop over rows
-- r rows of the seed are written to an output, and those from state s on are left
pub record Loading (d n seed : ℕ) (old : List ℕ) (r s : ℕ) (out : List ℕ) : Type 0 where
  pub written : out ≡ sets old (8 * 0) (encode_rows (load_rows d n seed r))
  pub left : (m : ℕ) → load_rows d n seed (r + m) ≡ load_rows d n seed r ++ load_rows d n s m

load_length : (d n seed m : ℕ) → length (load_rows d n seed m) ≡ m
unfolding load_rows
load_length d n seed zero = refl
load_length d n seed (suc m) = ap suc (load_length d n (row_draws seed).state m)

-- a load of fewer rows is the front of a longer one
pub load_front : (d n seed few many : ℕ) → few ≤ many → take few (load_rows d n seed many) ≡ load_rows d n seed few
unfolding load_rows
load_front d n seed zero many h = refl
load_front d n seed (suc few) zero h = absurd (not-suc-le-zero h)
load_front d n seed (suc few) (suc many) h = ap (λ (ws : List WrittenRow). drawn_row d n (row_draws seed) ∷ ws) (load_front d n (row_draws seed).state few many (le_of_suc-le-suc h))

module _ (d n seed : ℕ) (old : List ℕ) where
  pub loading_start : Loading d n seed old 0 seed old
  unfolding load_rows list_numbers bytes_of
  loading_start = record { written = refl; left = λ m. ap (load_rows d n seed) (zero-add m) }

  pub loading_next : {r s t : ℕ} {out new : List ℕ} {w : WrittenRow} → Loading d n seed old r s out → w ≡ drawn_row d n (row_draws s) → t ≡ (row_draws s).state
      → new ≡ sets out (8 * r) (encode_rows (w ∷ [])) → Loading d n seed old (r + 1) t new
  unfolding load_rows
  loading_next {r} {s} {t} {out} {new} {w} h e f g = record {
    written = g
        ∙ ap (λ (l : List ℕ). sets l (8 * r) (encode_rows (w ∷ []))) h.written
        ∙ row_written old 0 r (load_rows d n seed r) w (sym (load_length d n seed r) ∙ sym (zero-add (length (load_rows d n seed r))))
        ∙ ap (λ (ws : List WrittenRow). sets old (8 * 0) (encode_rows ws)) (ap (λ (x : WrittenRow). load_rows d n seed r ++ (x ∷ [])) e ∙ sym (h.left 1));
    left = λ m.
        let q : r + 1 + m ≡ r + suc m = omega arith in
        ap (load_rows d n seed) q
        ∙ h.left (suc m)
        ∙ sym (append_assoc (load_rows d n seed r) (drawn_row d n (row_draws s) ∷ []) (load_rows d n (row_draws s).state m))
        ∙ ap₂ (λ (ws : List WrittenRow) (x : ℕ). ws ++ load_rows d n x m) (sym (h.left 1)) (sym f);
  }

  pub loading_end : {r s : ℕ} {out : List ℕ} (count : ℕ) → r ≡ count → 8 * count ≤ length old → Loading d n seed old r s out → out ≡ front (encode_rows (load_rows d n seed count)) old
  loading_end count e room h =
      h.written
      ∙ ap (λ (m : ℕ). sets old (8 * 0) (encode_rows (load_rows d n seed m))) e
      ∙ write_front old (encode_rows (load_rows d n seed count)) (omega (arith, rows_bytes (load_rows d n seed count), load_length d n seed count))

-- ---- what stands at the front of an output afterwards is legal
pub load_answer : (d n seed count : ℕ) (old new : List ℕ) → 1 < d → 0 < n → new ≡ front (load_bytes d n seed count) old → all_legal_rows d n (list_rows (take (8 * count) new)) ≡ true
load_answer d n seed count old new large some e = ap (λ (b : List ℕ). all_legal_rows d n (list_rows b)) (ap (take (8 * count)) e ∙ taken) ∙ bytes_legal d n large some seed count
  where
    size : length (load_bytes d n seed count) ≡ 8 * count
    size = rows_bytes (load_rows d n seed count) ∙ ap (λ (m : ℕ). 8 * m) (load_length d n seed count)

    taken : take (8 * count) (front (load_bytes d n seed count) old) ≡ load_bytes d n seed count
    taken = take_at (load_bytes d n seed count) (drop (length (load_bytes d n seed count)) old) (8 * count) size
