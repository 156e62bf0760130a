-- A list whose tableau is stored and synthesised later (document 02, P9): what holds of the list that is handed back for it. `new` are the output's bytes after the call, `a` is what it answers.
use Rattle.std.specs.Prelude.{◌≡◌, List, ℕ, ◌+◌, ◌*◌, ◌≤◌, length}
use Rattle.arith.specs.Refusals.{Dimension, Width}
use Rattle.arith.specs.declared.checks.Answer.{Answer}
use Rattle.gates.specs.Written.{rows_of}
use Rattle.tableau.specs.Calls.{tableau_answer}
use Rattle.tableau.specs.Comparing.{LegalBytes, CarryAlike}
use Rattle.synthesis.specs.Demand3.{handed, Synthesised}

pub record Restored (d n : ℕ) (list new : List ℕ) (a : Answer) : Type 0 where
  -- a list is handed back, and it is legal
  pub accepted : a.number ≡ 0
  pub legal : LegalBytes d n (handed a.value new)
  -- it carries every Pauli in range as the given list does, phase included
  pub alike : CarryAlike d n (rows_of (handed a.value new)) (rows_of list)
  -- its tableau has the bytes that were stored
  pub same : tableau_answer d n (handed a.value new) ≡ tableau_answer d n list

-- for every list in bytes that is legal, the tableau that the call hands back for it, and every output that has room: what the synthesis call promises gives this
abbrev pub StoredLists : Type 0
StoredLists = (d n : ℕ) (list old new : List ℕ) (a : Answer) → Dimension d → Width n → LegalBytes d n list → 8 * (5 * (n * n) + 6 * n) ≤ length old
    → Synthesised d n (tableau_answer d n list) old new a → Restored d n list new a
