-- What a refusal by 7 or by 8 claims: no list of legal rows, of any length, has the refused tableau. It holds for every d above 1 and every n,
-- and of each call that refuses so.
use mathlib.Core.Path.{◌≡◌, refl, subst}
use mathlib.Core.List.{List, [], ◌∷◌}
use mathlib.Core.Logic.{◌⊎◌, inl, inr}
use mathlib.Core.Bool.{Bool, true, false, ◌&&◌}
use Prim.Native.Nat.{ℕ, zero, suc, ◌*◌, ◌/◌, ◌%◌, ◌<◌}
use native.Mathlib.Omega.{arith}
use lib.ListN.{length}
use lib.Dec.{leb, ltb, eqb}
use Rattle.arith.specs.Refusals.{refusal_number, or_else, unless_holds, dimension_of, width_of, given_of, size_of, whole_of, room_of, range_of, pairing_of, parity_of}
use Rattle.arith.specs.declared.checks.Refusal.{Refusal}
use Rattle.arith.specs.declared.checks.Refusal.TheVariants.{Dimension, Width, Length, Room, Range}
use Rattle.arith.proofs.Refusals.{or_else_none, given_good}
use Rattle.pauli.specs.Pauli.{Pauli}
use Rattle.pauli.specs.Bytes.{pauli_bytes, decode}
use Rattle.pauli.specs.Range.{bounds_of, pauli_range_of}
use Rattle.gates.specs.Row.{Row, AllLegal}
use Rattle.tableau.specs.Tableau.{tableau_of, Sound}
use Rattle.tableau.specs.Bytes.{tableau_bytes, decode_tableau}
use Rattle.tableau.specs.Range.{tableau_range_of}
use Rattle.tableau.specs.Soundness.{pairing_holds, parity_holds, soundness_of, both_soundness_of}
use Rattle.tableau.specs.Calls.{image_refusal, compose_refusal, inverse_refusal}
use Rattle.tableau.specs.Batch.{paulis_of, first_refusal, images_refusal}
use Rattle.tableau.specs.Inner.Parts.{tests_of}
use Rattle.tableau.proofs.Run.{tableau_sound}
use Rattle.tableau.proofs.Tests.{soundness_says}

-- a refusal as unrealisable
abbrev pub Unrealisable : ℕ → Type 0
Unrealisable r = (r ≡ 7) ⊎ (r ≡ 8)

-- ---- an unsound tableau is the tableau of no list
-- "a refusal speaks about all lists of every length": what a list of legal rows makes of the unit Paulis is sound
pub listed_sound : {d n : ℕ} {t : List Pauli} → 1 < d → (rows : List Row) → AllLegal d n rows → tableau_of d n rows ≡ t → Sound d n t
listed_sound {d} {n} one rows legal e = subst (Sound d n) e (tableau_sound one legal)

pub unsound_no_list : {d n : ℕ} {t : List Pauli} → 1 < d → ¬ Sound d n t → (rows : List Row) → AllLegal d n rows → tableau_of d n rows ≡ t → ⊥
unsound_no_list one f rows legal e = f (listed_sound one rows legal e)

module _ {d n : ℕ} (one : 1 < d) where
  pub listed_passes : {t : List Pauli} (rows : List Row) → AllLegal d n rows → tableau_of d n rows ≡ t → soundness_of d n t ≡ 0
  listed_passes {t} rows legal e = let s = listed_sound one rows legal e in (soundness_says {d = d} {n = n} {t = t}).accepted.1 (s.pairing, s.parities)

  pub refused_no_list : (t : List Pauli) → Unrealisable (soundness_of d n t) → (rows : List Row) → AllLegal d n rows → tableau_of d n rows ≡ t → ⊥
  refused_no_list t (inl r) rows legal e = let z = listed_passes rows legal e in omega arith
  refused_no_list t (inr r) rows legal e = let z = listed_passes rows legal e in omega arith

-- ---- the calls: where one refuses by 7 or by 8, the tests before are past, so it is the tableau that is unsound
-- a refusal below 7 is not the answer
pub later : (x y : ℕ) → x < 7 → Unrealisable (or_else x y) → (x ≡ 0) × Unrealisable y
later zero y l u = (refl, u)
later (suc x) y l (inl e) = absurd (omega arith)
later (suc x) y l (inr e) = absurd (omega arith)

pub unless_below : (k : Refusal) (test : Bool) → refusal_number k < 7 → unless_holds k test < 7
unless_below k true l = omega arith
unless_below k false l = l

pub or_below : (x y : ℕ) → x < 7 → y < 7 → or_else x y < 7
or_below zero y l m = m
or_below (suc x) y l m = l

given_below : (d n : ℕ) → given_of d n < 7
unfolding given_of dimension_of width_of
given_below d n = or_below (dimension_of d) (width_of n) (unless_below Dimension (leb 2 d && leb d 1024) (omega arith)) (unless_below Width (leb 1 n && leb n 16) (omega arith))

pub size_below : (want have : ℕ) → size_of want have < 7
unfolding size_of
size_below want have = unless_below Length (eqb have want) (omega arith)

pub room_below : (want have : ℕ) → room_of want have < 7
unfolding room_of
room_below want have = unless_below Room (leb want have) (omega arith)

pub range_below : (bound x : ℕ) → range_of bound x < 7
unfolding range_of
range_below bound x = unless_below Range (ltb x bound) (omega arith)

bounds_below : (d : ℕ) (xs : List ℕ) → bounds_of d xs < 7
unfolding bounds_of
bounds_below d [] = omega arith
bounds_below d (x ∷ xs) = or_below (range_of d x) (bounds_of d xs) (range_below d x) (bounds_below d xs)

pauli_below : (d : ℕ) (p : Pauli) → pauli_range_of d p < 7
unfolding pauli_range_of
pauli_below d p =
    or_below (range_of (2 * d) p.phase) _ (range_below (2 * d) p.phase)
    (or_below (bounds_of d p.v) (bounds_of d p.w) (bounds_below d p.v) (bounds_below d p.w))

tableau_below : (d : ℕ) (t : List Pauli) → tableau_range_of d t < 7
unfolding tableau_range_of
tableau_below d [] = omega arith
tableau_below d (c ∷ cs) = or_below (pauli_range_of d c) (tableau_range_of d cs) (pauli_below d c) (tableau_below d cs)

-- the image: no list has the tableau
pub image_no_list : (d n : ℕ) (t p : List ℕ) (room : ℕ) → Unrealisable (image_refusal d n t p room)
    → (rows : List Row) → AllLegal d n rows → tableau_of d n rows ≡ decode_tableau n t → ⊥
image_no_list d n t p room r =
    let a = later (given_of d n) _ (given_below d n) r in
    let b = later (size_of (tableau_bytes n) (length t)) _ (size_below (tableau_bytes n) (length t)) a.1 in
    let c = later (size_of (pauli_bytes n) (length p)) _ (size_below (pauli_bytes n) (length p)) b.1 in
    let f = later (room_of (pauli_bytes n) room) _ (room_below (pauli_bytes n) room) c.1 in
    let g = later (tableau_range_of d (decode_tableau n t)) _ (tableau_below d (decode_tableau n t)) f.1 in
    let h = later (pauli_range_of d (decode n p)) _ (pauli_below d (decode n p)) g.1 in
    refused_no_list (given_good a.0).dimension.d_low (decode_tableau n t) h.1

-- past 1 to 4 the tests of the tableau are left
tests_no_list : {d n : ℕ} → 1 < d → (t : List Pauli) → Unrealisable (tests_of d n t) → (rows : List Row) → AllLegal d n rows → tableau_of d n rows ≡ t → ⊥
tests_no_list {d} one t r = refused_no_list one t (later (tableau_range_of d t) _ (tableau_below d t) r).1

-- a batch: no list has the tableau, whichever of the single calls refuses
pub none_refused : {r : ℕ} → r ≡ 0 → Unrealisable r → ⊥
none_refused z (inl e) = omega arith
none_refused z (inr e) = omega arith

neither_refused : (x y : ℕ) → (Unrealisable x → ⊥) → (Unrealisable y → ⊥) → Unrealisable (or_else x y) → ⊥
neither_refused zero y f g r = g r
neither_refused (suc x) y f g r = f r

whole_below : (one most have : ℕ) → whole_of one most have < 7
unfolding whole_of
whole_below one most have = unless_below Length (eqb (have % one) 0 && leb (have / one) most) (omega arith)

first_no_list : (d n : ℕ) (t : List ℕ) (ps : List (List ℕ)) → Unrealisable (first_refusal d n t ps) → (rows : List Row) → AllLegal d n rows → tableau_of d n rows ≡ decode_tableau n t → ⊥
unfolding first_refusal
first_no_list d n t [] r rows legal e = none_refused refl r
first_no_list d n t (p ∷ ps) r rows legal e =
    neither_refused (image_refusal d n t p (pauli_bytes n)) (first_refusal d n t ps) (λ u. image_no_list d n t p (pauli_bytes n) u rows legal e) (λ u. first_no_list d n t ps u rows legal e) r

pub images_no_list : (d n : ℕ) (t batch : List ℕ) (room : ℕ) → Unrealisable (images_refusal d n t batch room)
    → (rows : List Row) → AllLegal d n rows → tableau_of d n rows ≡ decode_tableau n t → ⊥
images_no_list d n t batch room r rows legal e =
    let a = later (given_of d n) _ (given_below d n) r in
    let b = later (size_of (tableau_bytes n) (length t)) _ (size_below (tableau_bytes n) (length t)) a.1 in
    let c = later (whole_of (pauli_bytes n) 512 (length batch)) _ (whole_below (pauli_bytes n) 512 (length batch)) b.1 in
    let f = later (room_of (length batch) room) _ (room_below (length batch) room) c.1 in
    neither_refused (first_refusal d n t (paulis_of n batch)) (tests_of d n (decode_tableau n t))
    (λ u. first_no_list d n t (paulis_of n batch) u rows legal e)
    (λ u. tests_no_list (given_good a.0).dimension.d_low (decode_tableau n t) u rows legal e) f.1

-- the inverse: no list has the tableau
pub inverse_no_list : (d n : ℕ) (t : List ℕ) (room : ℕ) → Unrealisable (inverse_refusal d n t room)
    → (rows : List Row) → AllLegal d n rows → tableau_of d n rows ≡ decode_tableau n t → ⊥
inverse_no_list d n t room r =
    let a = later (given_of d n) _ (given_below d n) r in
    let b = later (size_of (tableau_bytes n) (length t)) _ (size_below (tableau_bytes n) (length t)) a.1 in
    let c = later (room_of (tableau_bytes n) room) _ (room_below (tableau_bytes n) room) b.1 in
    tests_no_list (given_good a.0).dimension.d_low (decode_tableau n t) c.1

-- composition: no two lists have the two tableaus
pub both_listed : (d n : ℕ) (t u : List Pauli) → soundness_of d n t ≡ 0 → soundness_of d n u ≡ 0 → both_soundness_of d n t u ≡ 0
both_listed d n t u e f =
    let a = or_else_none (pairing_of (pairing_holds d n t)) (parity_of (parity_holds d n t)) e in
    let b = or_else_none (pairing_of (pairing_holds d n u)) (parity_of (parity_holds d n u)) f in
    rw (a.0, b.0, a.1) b.1

pub compose_no_lists : (d n : ℕ) (t u : List ℕ) (room : ℕ) → Unrealisable (compose_refusal d n t u room)
    → (rows later_rows : List Row) → AllLegal d n rows → AllLegal d n later_rows → tableau_of d n rows ≡ decode_tableau n t → tableau_of d n later_rows ≡ decode_tableau n u → ⊥
compose_no_lists d n t u room r rows later_rows legal later_legal e f =
    let a = later (given_of d n) _ (given_below d n) r in
    let b = later (size_of (tableau_bytes n) (length t)) _ (size_below (tableau_bytes n) (length t)) a.1 in
    let c = later (size_of (tableau_bytes n) (length u)) _ (size_below (tableau_bytes n) (length u)) b.1 in
    let g = later (room_of (tableau_bytes n) room) _ (room_below (tableau_bytes n) room) c.1 in
    let h = later (tableau_range_of d (decode_tableau n t)) _ (tableau_below d (decode_tableau n t)) g.1 in
    let k = later (tableau_range_of d (decode_tableau n u)) _ (tableau_below d (decode_tableau n u)) h.1 in
    let one = (given_good a.0).dimension.d_low in
    none_refused (both_listed d n (decode_tableau n t) (decode_tableau n u) (listed_passes one rows legal e) (listed_passes one later_rows later_legal f)) k.1
