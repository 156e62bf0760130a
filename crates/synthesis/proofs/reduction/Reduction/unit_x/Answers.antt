-- `synthesis::reduction::Reduction::unit_x` meets its contract: its steps in turn. What M inverts is a unit at the tableau that is gathered.
use native.Mathlib.Omega.{arith}
use Rattle.std.proofs.Common.{rules}
use Rattle.synthesis.specs.Inner.Reduce.{gather, scale, clear_v, gathered, first_column}
use Rattle.synthesis.proofs.Did.{did_more, did_then, did_make, unit_reached}
use Rattle.synthesis.proofs.reduction.Reduction.unit_x.Goals as goal

pub scale-made-requires-clause-unit : goal.scale-made-requires-clause-unit
unfolding gathered
scale-made-requires-clause-unit g c = unit_reached c.args.q (did_then c.straighten_from.ensures (c.each_later.ensures.did (λ d n. gather d n c.args.q) (λ t j made l h p. search rules))) c.requires.unit

pub returns : goal.returns
unfolding first_column gathered
returns g c =
    let q = c.args.q in
    let gathered = c.each_later.ensures.did (λ d n. gather d n q) (λ t j made l h p. search rules) in
    let cleared = c.each_later-2.ensures.did (λ d n. clear_v d n q) (λ t j made l h p. search rules) in
    did_more (omega arith) (did_then (did_then (did_then c.straighten_from.ensures gathered) (did_make (λ d n. scale d n q) c.scale-made.ensures c.put.ensures)) cleared)
