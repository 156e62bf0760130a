-- Every Pauli is its phase times the powers of the unit Paulis: the units' own tableau carries each Pauli to itself.
use mathlib.Core.Path.{◌≡◌, refl, sym, ◌∙◌, ap}
use mathlib.Core.List.{List, [], ◌∷◌, ◌++◌, map, map-append}
use Prim.Native.Nat.{ℕ, zero, suc, ◌+◌, ◌*◌, ◌-◌, ◌<◌}
use native.Mathlib.Nat.{suc-add}
use native.Mathlib.Omega.{arith}
use lib.ListN.{length, replicate, length-append, length-replicate, length-map}
use lib.Seq.{append_snoc, set_at, get_or_at}
use Rattle.pauli.specs.Pauli.{Pauli, Below, none, more, InRange, product, power, unit, unit_z, phase_only}
use Rattle.pauli.proofs.Lists.{append_below, zeros_below}
use Rattle.pauli.proofs.Units.{unit_x_lem, unit_z_lem, put_x_lem, put_z_lem}
use Rattle.tableau.specs.Tableau.{up_from, units, multiplied, image, none, more}
use Rattle.tableau.proofs.Columns.{length_up_from}

-- ---- lists
multiplied_append : (d n : ℕ) (p : Pauli) (cs ds : List Pauli) (xs ys : List ℕ) → length cs ≡ length xs → multiplied d n p (cs ++ ds) (xs ++ ys) ≡ multiplied d n (multiplied d n p cs xs) ds ys
multiplied_append d n p [] ds [] ys e = refl
multiplied_append d n p [] ds (x ∷ xs) ys e = absurd (omega arith)
multiplied_append d n p (c ∷ cs) ds [] ys e = absurd (omega arith)
multiplied_append d n p (c ∷ cs) ds (x ∷ xs) ys e = multiplied_append d n (product d p (power d n c x)) cs ds xs ys (omega arith)

up_from_append : (k a b : ℕ) → up_from k (a + b) ≡ up_from k a ++ up_from (k + a) b
up_from_append k zero b = ends (k + 0) b (0 + b) (omega arith) (omega arith)
  where
    ends : (i b c : ℕ) → k ≡ i → c ≡ b → up_from k c ≡ up_from i b
    ends i b c e f j = up_from (e j) (f j)
up_from_append k (suc a) b = ap (up_from k) (suc-add a b) ∙ ap (λ (r : List ℕ). k ∷ r) (up_from_append (suc k) a b ∙ ap (λ (i : ℕ). up_from (suc k) a ++ up_from i b) (omega arith))

-- ---- the units below n put the entries of v there one after another
fill_x : (d n h i : ℕ) (pre ks : List ℕ) → 1 < d → h < 2 * d → length pre ≡ i → i + length ks ≡ n → Below d pre → Below d ks
    → multiplied d n (record { phase = h; v = pre ++ replicate (length ks) 0; w = replicate n 0 }) (map (unit n) (up_from i (length ks))) ks ≡ record { phase = h; v = pre ++ ks; w = replicate n 0 }
fill_x d n h i pre [] one g e f b c = refl
fill_x d n h i pre (k ∷ ks) one g e f b (more l c) =
    ap (λ (x : Pauli). multiplied d n x (map (unit n) (up_from (suc i) (length ks))) ks) step
    ∙ fill_x d n h (suc i) (pre ++ k ∷ []) ks one g (rw (length-append pre (k ∷ [])) (omega arith)) (omega arith) (append_below b (more l none)) c
    ∙ ap (λ (x : List ℕ). record { phase = h; v = x; w = replicate n 0 }) (append_snoc pre k ks)
  where
    step : product d (record { phase = h; v = pre ++ 0 ∷ replicate (length ks) 0; w = replicate n 0 }) (power d n (unit n i) k) ≡ record { phase = h; v = (pre ++ k ∷ []) ++ replicate (length ks) 0; w = replicate n 0 }
    step = ap (λ (u : Pauli). product d (record { phase = h; v = pre ++ 0 ∷ replicate (length ks) 0; w = replicate n 0 }) (power d n u k)) (unit_x_lem n i (omega arith))
        ∙ put_x_lem d n h i k (pre ++ 0 ∷ replicate (length ks) 0) one g (rw (length-append pre (0 ∷ replicate (length ks) 0), length-replicate {A = ℕ} (length ks) 0) (omega arith)) (append_below b (more (omega arith) (zeros_below (omega arith) (length ks)))) (get_or_at pre 0 (replicate (length ks) 0) 0 i e) l
        ∙ ap (λ (x : List ℕ). record { phase = h; v = x; w = replicate n 0 }) (set_at pre 0 (replicate (length ks) 0) k i e ∙ sym (append_snoc pre k (replicate (length ks) 0)))

-- the units from n on put those of w
fill_z : (d n h i : ℕ) (vs pre ks : List ℕ) → 1 < d → h < 2 * d → length vs ≡ n → Below d vs → length pre ≡ i → i + length ks ≡ n → Below d pre → Below d ks
    → multiplied d n (record { phase = h; v = vs; w = pre ++ replicate (length ks) 0 }) (map (unit n) (up_from (n + i) (length ks))) ks ≡ record { phase = h; v = vs; w = pre ++ ks }
fill_z d n h i vs pre [] one g e' b' e f b c = refl
fill_z d n h i vs pre (k ∷ ks) one g e' b' e f b (more l c) =
    ap (λ (x : Pauli). multiplied d n x (map (unit n) (up_from (suc (n + i)) (length ks))) ks) step
    ∙ ap (λ (j : ℕ). multiplied d n (record { phase = h; v = vs; w = (pre ++ k ∷ []) ++ replicate (length ks) 0 }) (map (unit n) (up_from j (length ks))) ks) next
    ∙ fill_z d n h (suc i) vs (pre ++ k ∷ []) ks one g e' b' (rw (length-append pre (k ∷ [])) (omega arith)) (omega arith) (append_below b (more l none)) c
    ∙ ap (λ (x : List ℕ). record { phase = h; v = vs; w = x }) (append_snoc pre k ks)
  where
    next : suc (n + i) ≡ n + suc i
    next = omega arith

    index : n + i - n ≡ i
    index = omega arith

    step : product d (record { phase = h; v = vs; w = pre ++ 0 ∷ replicate (length ks) 0 }) (power d n (unit n (n + i)) k) ≡ record { phase = h; v = vs; w = (pre ++ k ∷ []) ++ replicate (length ks) 0 }
    step = ap (λ (u : Pauli). product d (record { phase = h; v = vs; w = pre ++ 0 ∷ replicate (length ks) 0 }) (power d n u k)) (unit_z_lem n (n + i) (omega arith) ∙ ap (unit_z n) index)
        ∙ put_z_lem d n h i k vs (pre ++ 0 ∷ replicate (length ks) 0) one g e' b' (rw (length-append pre (0 ∷ replicate (length ks) 0), length-replicate {A = ℕ} (length ks) 0) (omega arith)) (append_below b (more (omega arith) (zeros_below (omega arith) (length ks)))) (get_or_at pre 0 (replicate (length ks) 0) 0 i e) l
        ∙ ap (λ (x : List ℕ). record { phase = h; v = vs; w = x }) (set_at pre 0 (replicate (length ks) 0) k i e ∙ sym (append_snoc pre k (replicate (length ks) 0)))

-- n of each
units_split : (n : ℕ) → units n ≡ map (unit n) (up_from 0 n) ++ map (unit n) (up_from (n + 0) n)
units_split n = ap (map (unit n)) (ap (up_from 0) two ∙ up_from_append 0 n n ∙ ap (λ (i : ℕ). up_from 0 n ++ up_from i n) index) ∙ map-append (unit n) (up_from 0 n) (up_from (n + 0) n)
  where
    two : 2 * n ≡ n + n
    two = omega arith

    index : 0 + n ≡ n + 0
    index = omega arith

pub image_units : (d n : ℕ) {p : Pauli} → 1 < d → InRange d n p → image d n (units n) p ≡ p
image_units d n {p} one a =
    ap (λ (t : List Pauli). multiplied d n (phase_only n p.phase) t (p.v ++ p.w)) (units_split n)
    ∙ multiplied_append d n (phase_only n p.phase) (map (unit n) (up_from 0 n)) (map (unit n) (up_from (n + 0) n)) p.v p.w (length-map (up_from 0 n) (unit n) ∙ length_up_from 0 n ∙ sym a.v_length)
    ∙ ap (λ (x : Pauli). multiplied d n x (map (unit n) (up_from (n + 0) n)) p.w) (first n a.v_length)
    ∙ second n a.w_length
  where
    first : (m : ℕ) → length p.v ≡ m → multiplied d n (record { phase = p.phase; v = replicate m 0; w = replicate n 0 }) (map (unit n) (up_from 0 m)) p.v ≡ record { phase = p.phase; v = p.v; w = replicate n 0 }
    first m e = rw (← e) (fill_x d n p.phase 0 [] p.v one a.phase_below refl (omega (arith, a.v_length)) none a.v_below)

    second : (m : ℕ) → length p.w ≡ m → multiplied d n (record { phase = p.phase; v = p.v; w = replicate m 0 }) (map (unit n) (up_from (n + 0) m)) p.w ≡ p
    second m e = rw (← e) (fill_z d n p.phase 0 p.v [] p.w one a.phase_below a.v_length a.v_below refl (omega (arith, a.w_length)) none a.w_below)
