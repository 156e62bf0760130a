-- `pauli::Pauli::read` meets its contract, part by part: its numbers are the bytes', from the first place on, and its word is theirs.
use Rattle.std.proofs.Common.{◌≡◌, List, ℕ, ◌+◌, ◌*◌, ◌≤◌, ◌<◌, refl, sym, ap, ap₂, ◌∙◌, arith, get_or}
use Rattle.arith.specs.Bytes.{tab, number_at, numbers_at}
use Rattle.arith.proofs.Bytes.{tab_ext}
use Rattle.pauli.specs.Support.{marks, word_of}
use Rattle.pauli.proofs.Ranges.{pauli_path}
use Rattle.pauli.proofs.Pauli.read.Goals as goal

-- n of the numbers, from place s on
taken : (a b : List ℕ) (k n s t : ℕ) → ((i : ℕ) → i < 1 + 2 * n → get_or a i 0 ≡ number_at b (k + i)) → s ≤ 1 + n → t ≡ k + s → tab (λ i. get_or a (s + i) 0) n ≡ numbers_at b t n
taken a b k n s t h l e = tab_ext (λ i. get_or a (s + i) 0) (λ i. number_at b (t + i)) n (λ i m. let q : k + (s + i) ≡ t + i = omega arith in h (s + i) (omega arith) ∙ ap (number_at b) q)

pub returns : goal.returns
returns c =
    let a = c.args in
    let r = c.read_numbers-numbers in
    let z : a.k + 0 ≡ a.k = omega arith in
    let h = rw c.value-m.ensures.value at r.ensures in
    let vs = c.entries_from-v.ensures a.n (omega arith) ∙ taken r.result a.b.now a.k a.n 1 (a.k + 1) h (omega arith) refl in
    let ws = c.entries_from-w.ensures a.n (omega arith) ∙ taken r.result a.b.now a.k a.n (1 + c.value-m.result) (a.k + 1 + a.n) h (omega arith) (omega arith) in
    record {
      value = pauli_path (c.lent.ensures ∙ r.ensures 0 (omega arith) ∙ ap (number_at a.b.now) z) vs ws;
      word = c.word_at-word.ensures ∙ ap word_of (sym (ap₂ marks vs ws));
    }
