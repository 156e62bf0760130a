-- The reader's answer is the one that the format says: from `Simulate` and `Sound`. A G text is read as the L text with the same bytes after its first one. Assumes nothing.
use mathlib.Core.Path.{◌≡◌, refl, sym, ap, ◌∙◌}
use mathlib.Core.Bool.{true}
use mathlib.Core.Logic.{◌⊎◌, inl, inr, ⊎_elim, ◌≢◌}
use mathlib.Core.List.{List, [], ◌∷◌, append-nil}
use Rattle.std.specs.Prelude.{Option, None, Some}
use Rattle.std.specs.Option.{option_map, option_and_then}
use Prim.Native.Nat.{ℕ, ◌+◌, ◌-◌, ◌≤◌, ◌<◌}
use native.Mathlib.Nat.{add-zero}
use native.Mathlib.Omega.{arith}
use lib.ListN.{length, get_or, take, drop, length-drop}
use lib.Seq.{sets, take_at}
use Rattle.std.proofs.lemmas.Option.{none-some}
use Rattle.arith.specs.Bytes.{bytes_of}
use Rattle.arith.proofs.Bytes.{bytes_length, write_front}
use Rattle.arith.proofs.Cases.{by_eq}
use Rattle.gates.specs.Written.{WrittenRow, row_numbers}
use Rattle.text.specs.Format.{line, concatenated, File, tableau_file, list_file, partner_file, FileFits, print_file, LaidOut}
use Rattle.text.specs.Convert.{full_columns}
use Rattle.text.specs.Inner.Reads.{file_numbers, reading_of, Reads, answer_of, named_of}
use Rattle.text.specs.Inner.Scan.{Within, Held, scanned, after_byte, out_after_byte, opening_of, start_of}
use Rattle.text.specs.declared.reading.Form.TheVariants.{Column, GateRow}
use Rattle.text.specs.declared.reading.Contents.{Contents}
use Rattle.text.specs.declared.reading.Form.{Form}
use Rattle.text.specs.declared.reading.State.{State}
use Rattle.text.proofs.AfterByte.{WithinNext, within_byte}
use Rattle.text.proofs.Simulate.{st, held, rows_full, tableau_scanned, list_scanned}
use Rattle.text.proofs.Sound.{KnownNext, KnownEnd, scanned_known, opening_known, Printed, finish}

-- what the reader comes to on a text of two bytes or more
abbrev pub opened : Option Form → List ℕ → List ℕ → Option Held
opened form out rest = option_and_then (λ f. scanned (start_of f) out rest) form

abbrev pub scanned_text : List ℕ → List ℕ → Option Held
scanned_text text out = opened (opening_of (get_or text 0 0) (get_or text 1 0)) out (drop 2 text)

abbrev rows_state : ℕ → ℕ → List WrittenRow → State
rows_state d n rs = st GateRow d n (length rs) 0 (length (concatenated row_numbers rs)) (rows_full n true rs)

abbrev last_state : File → State
last_state (tableau_file d n cs) = st Column d n (length cs) 0 (length (concatenated (λ (x : List ℕ). x) cs)) (full_columns n cs)
last_state (list_file d n rs) = rows_state d n rs
last_state (partner_file d n rs) = rows_state d n rs

print_scanned : (f : File) (out : List ℕ) → FileFits f → scanned_text (print_file f) out ≡ held (last_state f) (sets out 0 (bytes_of (file_numbers f)))
unfolding line opening_of
print_scanned (tableau_file d n cs) out fits = tableau_scanned d n cs out fits
print_scanned (list_file d n rs) out fits = list_scanned d n rs out fits
print_scanned (partner_file d n rs) out fits = list_scanned d n rs out fits

laid_scanned : (text out : List ℕ) (f : File) → LaidOut text f → scanned_text text out ≡ held (last_state f) (sets out 0 (bytes_of (file_numbers f)))
laid_scanned text out f h = ap (λ (t : List ℕ). scanned_text t out) h.1.1 ∙ print_scanned f out h.1.0

-- the answer for a text that ends in a state
abbrev pub answered : List ℕ → State → Option Contents
answered text s = option_map (named_of (get_or text 0 0)) (answer_of s.field s)

print_answer : (f : File) → answered (print_file f) (last_state f) ≡ Some (reading_of f)
unfolding line named_of
print_answer (tableau_file d n cs) = refl
print_answer (list_file d n rs) = refl
print_answer (partner_file d n rs) = refl

last_answer : (text : List ℕ) (f : File) → LaidOut text f → answered text (last_state f) ≡ Some (reading_of f)
last_answer text f h = ap (λ (t : List ℕ). answered t (last_state f)) h.1.1 ∙ print_answer f

last_count : (f : File) → (last_state f).count ≡ length (file_numbers f)
last_count (tableau_file d n cs) = refl
last_count (list_file d n rs) = refl
last_count (partner_file d n rs) = refl

-- the counts at the end of a scan that comes to one: every number of the text took two bytes of it
abbrev WithinEnd : ℕ → Option Held → Type 0
WithinEnd i None = Unit {0}
WithinEnd i (Some h) = Within i h.state

within_scanned : (u : List ℕ) (i : ℕ) (s : State) (out : List ℕ) → Within i s → WithinEnd (i + length u) (scanned s out u)
unfolding scanned
within_scanned [] i s out w = rw add-zero w
within_scanned (b ∷ u) i s out w =
    let e : i + length (b ∷ u) ≡ i + 1 + length u = omega arith in
    rw e (go (after_byte s b) (within_byte i s b w) (λ t h. within_scanned u (i + 1) t (out_after_byte s b out) h))
  where
    go : (o : Option State) → WithinNext (i + 1) o → ((t : State) → Within (i + 1) t → WithinEnd (i + 1 + length u) (scanned t (out_after_byte s b out) u))
        → WithinEnd (i + 1 + length u) (option_and_then (λ next. scanned next (out_after_byte s b out) u) o)
    go None h r = tt
    go (Some t) h r = r t h

within_opened : (form : Option Form) (u out : List ℕ) → WithinEnd (2 + length u) (opened form out u)
within_opened None u out = tt
within_opened (Some f) u out = within_scanned u 2 (start_of f) out (omega arith)

within_text : (text out : List ℕ) → 2 ≤ length text → WithinEnd (length text) (scanned_text text out)
within_text [] out h = absurd (omega arith)
within_text (a ∷ []) out h = absurd (omega arith)
within_text (a ∷ b ∷ u) out h =
    let e : length (a ∷ b ∷ u) ≡ 2 + length u = omega arith in
    rw e (within_opened (opening_of a b) u out)

-- the answer for a file that is laid out
reads_file : (text out : List ℕ) (f : File) → LaidOut text f → length (bytes_of (file_numbers f)) ≤ length out
    → Reads text out (Some (reading_of f)) (sets out 0 (bytes_of (file_numbers f)))
reads_file text out (tableau_file d n cs) h r =
    record { columns = cs; laid = h; counted = refl; sized = refl; holds = write_front out (bytes_of (file_numbers (tableau_file d n cs))) r }
reads_file text out (list_file d n rs) h r = record { rows = rs; laid = h; counted = refl; holds = write_front out (bytes_of (concatenated row_numbers rs)) r }
reads_file text out (partner_file d n rs) h r = record { rows = rs; laid = h; counted = refl; holds = write_front out (bytes_of (concatenated row_numbers rs)) r }

-- an L text's file is a G file of the same rows once its first byte is G's
partner_text : (u : List ℕ) → Printed (76 ∷ u) → Printed (71 ∷ u)
unfolding line
partner_text u p = go p.0 p.1.0 p.1.1
  where
    go : (f : File) → FileFits f → 76 ∷ u ≡ print_file f → Printed (71 ∷ u)
    go (tableau_file d n cs) fits e = absurd (let z : ◌≡◌ {A = ℕ} 76 84 = cc in omega arith)
    go (list_file d n rs) fits e = (partner_file d n rs, (fits, (cc)))
    go (partner_file d n rs) fits e = absurd (let z : ◌≡◌ {A = ℕ} 76 71 = cc in omega arith)

opening_partner : (b : ℕ) → opening_of 71 b ≡ opening_of 76 b
unfolding opening_of
opening_partner b = refl

-- a file, or no answer
abbrev NoAnswer : Option Held → Type 0
NoAnswer None = Unit {0}
NoAnswer (Some h) = answer_of h.state.field h.state ≡ None

abbrev Settled : List ℕ → Option Held → Type 0
Settled text o = Printed text ⊎ NoAnswer o

finish_end : (o : Option Held) (text : List ℕ) → KnownEnd o text → Settled text o
finish_end None text k = inr tt
finish_end (Some h) text k = finish h.state text k

settled : (form : Option Form) (a b : ℕ) (u out : List ℕ) → KnownNext (option_map start_of form) (a ∷ b ∷ []) → Settled (a ∷ b ∷ u) (opened form out u)
settled None a b u out k = inr tt
settled (Some f) a b u out k = finish_end (scanned (start_of f) out u) (a ∷ b ∷ u) (scanned_known u (start_of f) out (a ∷ b ∷ []) k)

known_other : (a b : ℕ) (u out : List ℕ) → a ≢ 71 → Settled (a ∷ b ∷ u) (scanned_text (a ∷ b ∷ u) out)
known_other a b u out ne = settled (opening_of a b) a b u out (opening_known a b ne)

known_partner : (b : ℕ) (u out : List ℕ) → Settled (71 ∷ b ∷ u) (scanned_text (71 ∷ b ∷ u) out)
known_partner b u out = rw (opening_partner b) (⊎_elim (λ p. inl (partner_text (b ∷ u) p)) (λ e. inr e) (known_other 76 b u out (λ e. omega arith)))

known_text : (text out : List ℕ) → 2 ≤ length text → Settled text (scanned_text text out)
known_text [] out h = absurd (omega arith)
known_text (a ∷ []) out h = absurd (omega arith)
known_text (a ∷ b ∷ u) out h = by_eq a 71 (λ e. rw e (known_partner b u out)) (λ ne. known_other a b u out ne)

-- the answer at the end of a scan
abbrev answer_end : List ℕ → Option Held → Option Contents
answer_end text None = None
answer_end text (Some h) = answered text h.state

-- what the reader promises at the end of a scan, and where there is none
abbrev pub ReadsEnd : List ℕ → List ℕ → Option Held → Type 0
ReadsEnd text before None = (f : File) → LaidOut text f → ⊥
ReadsEnd text before (Some h) = Reads text before (answered text h.state) h.out

-- no file prints as a text for which there is no answer
none_laid : (text out : List ℕ) (o : Option Held) → scanned_text text out ≡ o → NoAnswer o → ReadsEnd text out o
none_laid text out None q e = λ f laid. absurd (none-some _ (sym q ∙ laid_scanned text out f laid))
none_laid text out (Some h) q e =
    let none : answered text h.state ≡ None = ap (option_map (named_of (get_or text 0 0))) e in
    rw none (λ f laid. none-some _ (sym none ∙ ap (answer_end text) (sym q ∙ laid_scanned text out f laid) ∙ last_answer text f laid))

pub reads : (text out : List ℕ) → 2 ≤ length text → length text ≤ 65536 → length text ≤ length out → ReadsEnd text out (scanned_text text out)
reads text out h g r = go (known_text text out h)
  where
    go : Settled text (scanned_text text out) → ReadsEnd text out (scanned_text text out)
    go (inl p) =
        let f : File = p.0 in
        let laid : LaidOut text f = (g, p.1) in
        let e = laid_scanned text out f laid in
        let c : (last_state f).count ≡ length (file_numbers f) = last_count f in
        let w = rw e at (within_text text out h) in
        rw (e, last_answer text f laid) (reads_file text out f laid (omega (arith, w.counted, c, bytes_length (file_numbers f))))
    go (inr e) = none_laid text out (scanned_text text out) refl e

-- by the opening, and by what the scan came to
pub reads_unopened : (text out : List ℕ) → 2 ≤ length text → length text ≤ 65536 → length text ≤ length out → opening_of (get_or text 0 0) (get_or text 1 0) ≡ None
    → (f : File) → LaidOut text f → ⊥
reads_unopened text out h g r e = rw e at (reads text out h g r)

pub reads_opened : (text out : List ℕ) → 2 ≤ length text → length text ≤ 65536 → length text ≤ length out → {form : Form} {o : Option Held} → opening_of (get_or text 0 0) (get_or text 1 0) ≡ Some form
    → o ≡ scanned (start_of form) out (take (length text - 2) (drop 2 text)) → ReadsEnd text out o
reads_opened text out h g r {form} e q =
    let rest : List ℕ = drop 2 text in
    let all = ap (take (length text - 2)) (sym (append-nil rest)) ∙ take_at rest [] (length text - 2) (length-drop 2 text) in
    rw (q ∙ ap (scanned (start_of form) out) all) (rw e at (reads text out h g r))

-- a text of fewer than two bytes is no file's
pub short : (text : List ℕ) → length text < 2 → (f : File) → LaidOut text f → ⊥
unfolding line
short text h (tableau_file d n cs) laid = let e = ap length laid.1.1 in omega arith
short text h (list_file d n rs) laid = let e = ap length laid.1.1 in omega arith
short text h (partner_file d n rs) laid = let e = ap length laid.1.1 in omega arith
