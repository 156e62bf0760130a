-- What the calls hand back, handed to the calls again: each answer that is a tableau is taken, and does what the document says of it. Assumes nothing.
use mathlib.Core.Path.{◌≡◌, sym, ap, ◌∙◌}
use mathlib.Core.List.{List, [], append-nil}
use mathlib.Core.Bool.{true}
use Prim.Native.Nat.{ℕ, ◌<◌}
use native.Mathlib.Omega.{arith}
use Rattle.arith.proofs.Bytes.{bytes_length}
use Rattle.pauli.specs.Pauli.{Pauli, InRange}
use Rattle.pauli.specs.Bytes.{decode, encode}
use Rattle.gates.specs.Row.{run}
use Rattle.gates.specs.Written.{list_rows, rows_of, all_legal_rows}
use Rattle.gates.proofs.Written.{all_legal_meant}
use Rattle.tableau.specs.Tableau.{units, image, WellFormed, Sound, compose}
use Rattle.tableau.specs.Inverse.{inverse}
use Rattle.tableau.specs.Bytes.{decode_tableau, tableau_numbers, encode_tableau}
use Rattle.tableau.specs.Calls.{tableau_answer, image_answer, compose_answer, inverse_answer}
use Rattle.tableau.specs.Comparing.{Taken}
use Rattle.tableau.proofs.Bytes.{decode_encode, numbers_tableau}
use Rattle.tableau.proofs.Compose.{compose_formed, compose_sound, image_compose}
use Rattle.tableau.proofs.Inverse.{inverse_formed, inverse_sound, inverse_right, inverse_left}
use Rattle.tableau.proofs.Run.{run_image, tableau_formed, tableau_sound}

pub decode_answer : {d n : ℕ} {t : List Pauli} → 1 < d → WellFormed d n t → decode_tableau n (encode_tableau t) ≡ t
decode_answer {n = n} {t} one g = ap (decode_tableau n) (sym (append-nil (encode_tableau t))) ∙ decode_encode [] (omega arith) g

answer_taken : {d n : ℕ} {t : List Pauli} → 1 < d → WellFormed d n t → Sound d n t → Taken d n (encode_tableau t)
unfolding encode_tableau
answer_taken {t = t} one g s = record {
  size = bytes_length (tableau_numbers t) ∙ omega (arith, numbers_tableau g);
  formed = rw (decode_answer one g) g;
  sound = rw (decode_answer one g) s;
}

module _ {d n : ℕ} (one : 1 < d) where
  -- ---- the tableau of a list
  module _ (list : List ℕ) (legal : all_legal_rows d n (list_rows list) ≡ true) where
    pub tableau_taken : Taken d n (tableau_answer d n list)
    tableau_taken = let l = all_legal_meant d n (list_rows list) legal in answer_taken one (tableau_formed one l) (tableau_sound one l)

    -- the image under it is what the list carries the Pauli to
    pub tableau_image_run : (p : List ℕ) → InRange d n (decode n p) → image_answer d n (tableau_answer d n list) p ≡ encode (run d (rows_of list) (decode n p))
    tableau_image_run p a =
        let l = all_legal_meant d n (list_rows list) legal in
        ap (λ (t : List Pauli). encode (image d n t (decode n p))) (decode_answer one (tableau_formed one l)) ∙ ap encode (sym (run_image one l (decode n p) a))

  -- ---- "two tableaus one after the other"
  module _ {t u : List ℕ} (a : Taken d n t) (b : Taken d n u) where
    pub composed_taken : Taken d n (compose_answer d n t u)
    composed_taken = answer_taken one (compose_formed (omega arith) a.formed b.formed) (compose_sound one a.formed a.sound b.formed b.sound)

    -- the image under the composition is the image under the second of the image under the first
    pub composed_image : (p : Pauli) → InRange d n p → image d n (decode_tableau n (compose_answer d n t u)) p ≡ image d n (decode_tableau n u) (image d n (decode_tableau n t) p)
    composed_image p r =
        ap (λ (x : List Pauli). image d n x p) (decode_answer one (compose_formed (omega arith) a.formed b.formed))
        ∙ image_compose one a.formed a.sound b.formed b.sound p r

  -- ---- "the tableau that undoes another": "composed in either order it gives the unit Paulis"
  module _ {t : List ℕ} (a : Taken d n t) where
    pub inverse_taken : Taken d n (inverse_answer d n t)
    inverse_taken = answer_taken one (inverse_formed one a.formed a.sound) (inverse_sound one a.formed a.sound)

    undone : decode_tableau n (inverse_answer d n t) ≡ inverse d n (decode_tableau n t)
    undone = decode_answer one (inverse_formed one a.formed a.sound)

    pub inverse_after : compose_answer d n t (inverse_answer d n t) ≡ encode_tableau (units n)
    inverse_after = ap (λ (x : List Pauli). encode_tableau (compose d n (decode_tableau n t) x)) undone ∙ ap encode_tableau (inverse_right one a.formed a.sound)

    pub inverse_before : compose_answer d n (inverse_answer d n t) t ≡ encode_tableau (units n)
    inverse_before = ap (λ (x : List Pauli). encode_tableau (compose d n x (decode_tableau n t))) undone ∙ ap encode_tableau (inverse_left one a.formed a.sound)
