-- Laws of steps that code does: one step after another, a step that is skipped, a row put behind, a loop of steps. Assumes nothing.
use mathlib.Core.Path.{◌≡◌, refl, sym, ◌∙◌, ap, subst}
use mathlib.Core.Bool.{Bool, cond}
use mathlib.Core.List.{List, [], ◌∷◌, ◌++◌, map, reverse-cons}
use mathlib.Core.Logic.{◌≢◌}
use Rattle.std.specs.Prelude.{Option, None, Some}
use Prim.Native.Nat.{ℕ, suc, ◌+◌, ◌*◌, ◌-◌, ◌%◌, ◌≤◌, ◌<◌}
use native.Mathlib.Nat.{add-zero, mod-lt}
use native.Mathlib.Omega.{arith}
use lib.ListN.{length, length-map, length-reverse}
use lib.Seq.{sets}
use lib.Dec.{eqb}
use Rattle.arith.specs.Bytes.{bytes_of}
use Rattle.arith.specs.Units.{IsUnit}
use Rattle.arith.proofs.Cases.{eqb_case, by_eq}
use Rattle.arith.proofs.Units.{unit_pos}
use Rattle.pauli.specs.Pauli.{Pauli}
use Rattle.gates.specs.Row.{Row, F, S, A, M, X, Z, Legal, apply, undo}
use Rattle.gates.specs.Written.{WrittenRow, on_one, on_two, written, meant, list_numbers, encode_rows}
use Rattle.gates.specs.Inner.View.{view_row}
use Rattle.gates.specs.declared.Row.{Row as Code}
use Rattle.gates.proofs.Written.{legal_written, meant_of_written, row_written}
use Rattle.tableau.specs.Tableau.{up_from}
use Rattle.synthesis.specs.Inner.Reduce.{State, near_power, put, put_s, put_a, put_m, put_x, put_z, each, start}
use Rattle.synthesis.specs.Inner.Progress.{undo_rows, Holds, Does, put_made, Says}
use Rattle.synthesis.proofs.Steps.{near_low, near_high, each_more}

-- ---- rows put behind
-- the undo rows of one row more
undo_more : (d : ℕ) (r : Row) (rows : List Row) → undo_rows d (r ∷ rows) ≡ undo_rows d rows ++ (written (undo d r) ∷ [])
unfolding undo_rows
undo_more d r rows = reverse-cons (written (undo d r)) (map (λ x. written (undo d x)) rows)

pub undo_length : (d : ℕ) (rows : List Row) → length (undo_rows d rows) ≡ length rows
unfolding undo_rows
undo_length d rows = length-reverse (map (λ r. written (undo d r)) rows) ∙ length-map rows (λ r. written (undo d r))

-- ---- steps
module _ {d : ℕ} {t : List Pauli} {out : List ℕ} {count : ℕ} where
  -- the start: nothing done yet
  holds_start : Holds d count out t out count (start t)
  unfolding undo_rows list_numbers bytes_of
  holds_start = record { tableau = refl; counted = sym (add-zero count); listed = refl }

  pub does_nothing : (k : ℕ) → Does d k (λ s. s) t out count t out count
  does_nothing k = record { does = λ first old s h. h; within = omega arith }

  -- a row x put behind every column, and its undo row, written as w, behind the others
  pub does_put : {t' : List Pauli} {out' : List ℕ} {count' : ℕ} {w : WrittenRow} (x : Row) → t' ≡ map (apply d x) t
      → written (undo d x) ≡ w → out' ≡ sets out (8 * count) (encode_rows (w ∷ [])) → count' ≡ count + 1 → Does d 1 (put d x) t out count t' out' count'
  does_put {t'} {out'} {count'} {w} x e u f g = record {
    does = λ first old s h. record {
      tableau = e ∙ ap (map (apply d x)) h.tableau;
      counted = omega (arith, h.counted);
      listed = f ∙ ap (λ (l : List ℕ). sets l (8 * count) (encode_rows (w ∷ []))) h.listed
          ∙ row_written old first count (undo_rows d s.rows) w (omega (arith, h.counted, undo_length d s.rows))
          ∙ ap (λ (l : List WrittenRow). sets old (8 * first) (encode_rows l)) (ap (λ (z : WrittenRow). undo_rows d s.rows ++ (z ∷ [])) (sym u) ∙ sym (undo_more d x s.rows));
    };
    within = omega arith;
  }

module _ {d : ℕ} {t t' : List Pauli} {out out' : List ℕ} {count count' : ℕ} where
  pub does_more : {k l : ℕ} {f : State → State} → k ≤ l → Does d k f t out count t' out' count' → Does d l f t out count t' out' count'
  does_more h a = record { does = a.does; within = omega (arith, a.within) }

  -- a step that is the same at the tableau that the code holds
  pub does_as : {k : ℕ} {f : State → State} (g : State → State) → ((s : State) → t ≡ s.tableau → f s ≡ g s) → Does d k f t out count t' out' count' → Does d k g t out count t' out' count'
  does_as {k} {f} g e a = record {
    does = λ first old s h. subst (λ (z : State). Holds d first old t' out' count' z) (e s h.tableau) (a.does first old s h);
    within = a.within;
  }

  -- a step that a test of the tableau decides
  pub does_test : {k : ℕ} (f : Bool → State → State) (test : List Pauli → Bool) {b : Bool} → test t ≡ b → Does d k (f b) t out count t' out' count' → Does d k (λ s. f (test s.tableau) s) t out count t' out' count'
  does_test f test e a = does_as (λ s. f (test s.tableau) s) (λ s h. ap (λ (x : Bool). f x s) (sym e ∙ ap test h)) a

  -- a step whose power is read off the tableau
  pub does_power : {m k : ℕ} (f : ℕ → State → State) (power : List Pauli → ℕ) → k ≡ power t → Does d m (f k) t out count t' out' count' → Does d m (λ s. f (power s.tableau) s) t out count t' out' count'
  does_power f power e a = does_as (λ s. f (power s.tableau) s) (λ s h. ap (λ (x : ℕ). f x s) (e ∙ ap power h)) a

  -- the state at the end, from the start
  pub does_from : {k : ℕ} {f : State → State} → Does d k f t out count t' out' count' → Holds d count out t' out' count' (f (start t))
  does_from a = a.does count out (start t) holds_start

  pub does_then : {k l : ℕ} {f g : State → State} {t'' : List Pauli} {out'' : List ℕ} {count'' : ℕ}
      → Does d k f t out count t' out' count' → Does d l g t' out' count' t'' out'' count'' → Does d (k + l) (λ s. g (f s)) t out count t'' out'' count''
  does_then {f = f} a b = record { does = λ first old s h. b.does first old (f s) (a.does first old s h); within = omega (arith, a.within, b.within) }

-- ---- the row that a step puts behind
pub says_does : {d n k : ℕ} {f : State → State} {t t' : List Pauli} {out out' : List ℕ} {count count' : ℕ} {made : Option Code} → Says d n f t made
    → Does d k (put_made d made) t out count t' out' count' → Does d k f t out count t' out' count'
says_does {f = f} a b = does_as f (λ s h. a.puts s h) b

-- none: nothing is done
pub says_does_none : {d n : ℕ} {f : State → State} {t : List Pauli} {out : List ℕ} {count : ℕ} {made : Option Code} → Says d n f t made → made ≡ None → Does d 1 f t out count t out count
says_does_none {d} {t = t} {out = out} {count = count} {made = made} a e =
    record { does = λ first old s h. subst (λ (z : State). Holds d first old t out count z) (ap (λ (m : Option Code). put_made d m s) (sym e) ∙ a.puts s h.tableau) h; within = omega arith }

-- a step whose power is read off the tableau
pub says_power : {d n k : ℕ} {t : List Pauli} {made : Option Code} (f : ℕ → State → State) (power : List Pauli → ℕ) → k ≡ power t → Says d n (f k) t made → Says d n (λ s. f (power s.tableau) s) t made
says_power f power e a = record { legal = a.legal; puts = λ s h. a.puts s h ∙ ap (λ (x : ℕ). f x s) (e ∙ ap power h) }

module _ (d n : ℕ) {t : List Pauli} where
  -- the row x with power k, where k does something unless it is `none`
  pub says_row : {none k : ℕ} {row : Code} (x : Row) → view_row row ≡ written x → k ≢ none → Legal d n x → Says d n (λ s. cond (eqb k none) s (put d x s)) t (Some row)
  says_row {none} {k} {row} x e ne l = record {
    legal = rw e (legal_written d n x l);
    puts = λ s h. eqb_case (λ b. put d (meant (view_row row)) s ≡ cond b s (put d x s)) k none (λ q. absurd (ne q)) (λ q. ap (λ (y : Row). put d y s) (ap meant e ∙ meant_of_written x));
  }

  pub says_none : {none k : ℕ} (g : State → State) → k ≡ none → Says d n (λ s. cond (eqb k none) s (g s)) t None
  says_none {none} {k} g e = record { legal = tt; puts = λ s h. eqb_case (λ b. s ≡ cond b s (g s)) k none (λ q. refl) (λ ne. absurd (ne e)) }

  -- a kind that has a power, `none`, which does nothing
  pub says_unless : {none k : ℕ} {row : Code} {made : Option Code} (x : Row) → view_row row ≡ written x → row.power ≡ k → made ≡ cond (eqb row.power none) None (Some row)
      → (k ≢ none → Legal d n x) → Says d n (λ s. cond (eqb k none) s (put d x s)) t made
  says_unless {none} {k} {row} {made} x e p m l =
      let q : made ≡ cond (eqb k none) None (Some row) = m ∙ ap (λ (y : ℕ). cond (eqb y none) None (Some row)) p in
      by_eq k none (λ z. rw (q ∙ eqb_case (λ b. cond b None (Some row) ≡ None) k none (λ o. refl) (λ ne. absurd (ne z))) (says_none (put d x) z))
      (λ ne. rw (q ∙ eqb_case (λ b. cond b None (Some row) ≡ Some row) k none (λ o. absurd (ne o)) (λ o. refl)) (says_row x e ne (l ne)))

  pub says_a : (i j k : ℕ) {row : Code} {made : Option Code} → view_row row ≡ on_two 3 i j k → made ≡ cond (eqb row.power 0) None (Some row) → i < n → j < n → i ≢ j → k < d → Says d n (put_a d i j k) t made
  says_a i j k e m l l' ij h = says_unless (A i j k) e (ap (λ (w : WrittenRow). w.power) e) m
      (λ ne. (record { from_qudit = l; to_qudit = l'; apart = ij }, record { qudit = l; power_low = omega arith; power_high = omega arith }))

  pub says_m : (i k : ℕ) {row : Code} {made : Option Code} → view_row row ≡ on_one 4 i k → made ≡ cond (eqb row.power 1) None (Some row) → 1 < d → IsUnit d k → i < n → k < d → Says d n (put_m d i k) t made
  says_m i k e m one u l h = says_unless (M i k) e (ap (λ (w : WrittenRow). w.power) e) m (λ ne. (u, record { qudit = l; power_low = unit_pos d k one u; power_high = omega arith }))

  pub says_x : (i k : ℕ) {row : Code} {made : Option Code} → view_row row ≡ on_one 5 i k → made ≡ cond (eqb row.power 0) None (Some row) → i < n → k < d → Says d n (put_x d i k) t made
  says_x i k e m l h = says_unless (X i k) e (ap (λ (w : WrittenRow). w.power) e) m (λ ne. record { qudit = l; power_low = omega arith; power_high = omega arith })

  pub says_z : (i k : ℕ) {row : Code} {made : Option Code} → view_row row ≡ on_one 6 i k → made ≡ cond (eqb row.power 0) None (Some row) → i < n → k < d → Says d n (put_z d i k) t made
  says_z i k e m l h = says_unless (Z i k) e (ap (λ (w : WrittenRow). w.power) e) m (λ ne. record { qudit = l; power_low = omega arith; power_high = omega arith })

  -- a multiple of d is no row, any other power makes the row of the definition
  pub says_s_none : (i k : ℕ) → k % d ≡ 0 → Says d n (put_s d i k) t None
  says_s_none i k e = says_none (put d (S i (near_power d (k % d)))) e

  pub says_s : (i k : ℕ) {row : Code} → view_row row ≡ on_one 2 i (near_power d (k % d)) → 0 < d → i < n → k % d ≢ 0 → Says d n (put_s d i k) t (Some row)
  says_s i k e pos l ne =
      says_row (S i (near_power d (k % d))) e ne (record { qudit = l; power_low = near_low d (k % d) (omega arith); power_high = near_high d (k % d) (mod-lt k pos) })

  -- F is put behind whatever the tableau is
  pub says_f : (i k : ℕ) {row : Code} → view_row row ≡ on_one 1 i k → i < n → (1 ≤ k) × (k ≤ 3) → Says d n (put d (F i k)) t (Some row)
  says_f i k e l m = record {
    legal = rw e (legal_written d n (F i k) (record { qudit = l; power_low = m.0; power_high = m.1 }));
    puts = λ s h. ap (λ (y : Row). put d y s) (ap meant e ∙ meant_of_written (F i k));
  }

-- ---- loops: the steps for the numbers from k on, before the turn of j
abbrev pub up_to : (ℕ → State → State) → ℕ → ℕ → State → State
up_to f k j s = each f (up_from k (j - k)) s

up_none : (f : ℕ → State → State) (k : ℕ) (s : State) → s ≡ up_to f k k s
up_none f k s = let e : k - k ≡ 0 = omega arith in rw e

up_more : (f : ℕ → State → State) (k j : ℕ) (s : State) → k ≤ j → f j (up_to f k j s) ≡ up_to f k (j + 1) s
up_more f k j s h =
    let e : j + 1 - k ≡ suc (j - k) = omega arith in
    let q : j ≡ k + (j - k) = omega arith in
    ap (λ (x : ℕ). f x (up_to f k j s)) q ∙ sym (each_more f k (j - k) s) ∙ ap (λ (m : ℕ). each f (up_from k m) s) (sym e)

module _ {d : ℕ} {t : List Pauli} {out : List ℕ} {count : ℕ} where
  pub loop_none : (f : ℕ → State → State) (a k : ℕ) → Does d a (up_to f k k) t out count t out count
  loop_none f a k = record { does = λ first old s h. subst (λ (z : State). Holds d first old t out count z) (up_none f k s) h; within = omega arith }

  pub loop_more : {t' t'' : List Pauli} {out' out'' : List ℕ} {count' count'' m a b : ℕ} (f : ℕ → State → State) (k j : ℕ) → k ≤ j → count'' ≤ count + b
      → Does d a (up_to f k j) t out count t' out' count' → Does d m (f j) t' out' count' t'' out'' count'' → Does d b (up_to f k (j + 1)) t out count t'' out'' count''
  loop_more {t'' = t''} {out'' = out''} {count'' = count''} f k j h l x y = record {
    does = λ first old s z. subst (λ (u : State). Holds d first old t'' out'' count'' u) (up_more f k j s h) (y.does first old (up_to f k j s) (x.does first old s z));
    within = l;
  }
