-- `convert::read_input` meets its contract: what a read gives stands behind what was read before it.
use Rattle.std.proofs.Common.{◌≡◌, ℕ, ◌+◌, ◌≤◌, List, ◌++◌, length, take, ap, sym, ◌∙◌, subst, arith}
use Rattle.std.proofs.lemmas.List.{take-append-le, length-take-le}
use Rattle.std.proofs.Math.Seq.{take-append-add}
use Rattle.std.proofs.KnownBytes.{Consumes-trans}
use Rattle.std.specs.Prelude.{Result, Ok, Err, Some}
use Rattle.std.specs.Result.{result_ok}
use Rattle.std.specs.Io.{ReadsAtMost}
use Rattle.std.specs.Io.KnownBytes.{Consumes, ReadConsumes}
use borrow.Rule.Slice.PartMut.{put_mid, post_of}
use Rattle.convert.proofs.read_input.Goals as goal

-- the front of a list whose middle was replaced by ys, up to place m of ys
take_more : (a k m : ℕ) (xs ys : List ℕ) → a ≤ length xs → m ≤ length ys → take (a + m) (put_mid a k xs ys) ≡ take a xs ++ take m ys
take_more a k m xs ys l h =
    ap (λ (i : ℕ). take (i + m) (put_mid a k xs ys)) (sym (length-take-le a xs l))
    ∙ take-append-add (take a xs) (ys ++ post_of a k xs) m
    ∙ ap (λ (zs : List ℕ). take a xs ++ zs) (take-append-le m ys (post_of a k xs) h)

-- what `ok` makes Some was Ok
was_ok : {E : Type 0} (r : Result ℕ E) (n : ℕ) → result_ok r ≡ Some n → r ≡ Ok n
was_ok (Ok m) n e = cc
was_ok (Err z) n e = cc

pub loop-done-preserved : goal.loop-done-preserved
loop-done-preserved g c =
    let e = was_ok c.read.result c.in_ok-more.more (sym c.ok.ensures.value ∙ c.in_ok-more.was) in
    let bound = subst (λ r. ReadsAtMost r c.read.new.buf) e c.read.ensures.bound in
    let bytes = subst (λ r. ReadConsumes (g.R.Read.remaining c.loop-done.reader) (g.R.Read.remaining c.read.new.self) r c.read.new.buf) e c.read.ensures.bytes in
    record {
      within = omega (arith, bound.0);
      read = subst (Consumes (g.R.Read.remaining c.args.reader.now) (g.R.Read.remaining c.read.new.self))
          (sym (take_more c.loop-done.done _ c.in_ok-more.more c.loop-done.buffer c.read.new.buf c.loop-done.invariant.within bound.0))
          (Consumes-trans _ _ _ _ _ c.loop-done.invariant.read bytes.0);
    }
