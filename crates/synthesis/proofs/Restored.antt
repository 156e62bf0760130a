-- Storing a list's tableau and synthesising it gives a list that acts alike: from demand 3, and from the comparison of lists by their tableaus. Assumes nothing.
use mathlib.Core.Path.{◌≡◌, sym, ap, subst, ◌∙◌}
use mathlib.Core.List.{List}
use Prim.Native.Nat.{◌<◌}
use lib.ListN.{length}
use Rattle.pauli.specs.Pauli.{Pauli}
use Rattle.gates.specs.Row.{AllLegal}
use Rattle.gates.specs.Written.{list_rows, rows_of}
use Rattle.gates.proofs.Written.{all_legal_meant}
use Rattle.tableau.specs.Tableau.{tableau_of, image}
use Rattle.tableau.specs.Bytes.{decode_tableau}
use Rattle.tableau.specs.Calls.{tableau_answer}
use Rattle.tableau.specs.Comparing.{Stored, CarryAlike}
use Rattle.tableau.proofs.Answers.{decode_answer}
use Rattle.tableau.proofs.Comparing.{equal_bytes, tableau_stored}
use Rattle.tableau.proofs.Run.{run_image, tableau_formed, tableau_column}
use Rattle.synthesis.specs.Demand3.{Realises, handed, HandsBack, WellGiven}
use Rattle.synthesis.specs.Restored.{StoredLists}
use Rattle.synthesis.proofs.Premises.{malformed_exactly}

pub stored_lists : StoredLists
stored_lists d n list old new a dimension width legal room s = record {
  accepted = accepted;
  legal = back.legal;
  alike = alike;
  same = (equal_bytes d n (handed a.value new) list one back.legal legal).1 alike;
}
  where
    one : 1 < d
    one = dimension.d_low

    rows : AllLegal d n (rows_of list)
    rows = all_legal_meant d n (list_rows list) legal

    stored : Stored d n (tableau_answer d n list)
    stored = tableau_stored dimension list legal

    given : WellGiven d n (tableau_answer d n list) (length old)
    given = record { dimension = dimension; width = width; sized = stored.taken.size; ranges = stored.taken.formed.ranges; roomy = room }

    -- what is decoded from the stored bytes is the list's tableau, so the list realises it
    decoded : decode_tableau n (tableau_answer d n list) ≡ tableau_of d n (rows_of list)
    decoded = decode_answer one (tableau_formed one rows)

    realised : Realises d n (rows_of list) (decode_tableau n (tableau_answer d n list))
    realised = subst (Realises d n (rows_of list)) (sym decoded) (record { legal = rows; carries = λ j l. sym (tableau_column one rows j l) })

    accepted : a.number ≡ 0
    accepted = (s.accepted ((malformed_exactly d n (tableau_answer d n list) (length old)).1 given)).1 (rows_of list, realised)

    back : HandsBack d n (decode_tableau n (tableau_answer d n list)) a.value old new
    back = s.list accepted

    alike : CarryAlike d n (rows_of (handed a.value new)) (rows_of list)
    alike p r = back.images p r ∙ ap (λ (t : List Pauli). image d n t p) decoded ∙ sym (run_image one rows p r)
