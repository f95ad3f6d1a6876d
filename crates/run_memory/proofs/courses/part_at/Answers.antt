use Rattle.std.proofs.Common.{◌∙◌, arith, sym}
use Rattle.run_memory.proofs.Rewriting.{none_left, part_later}
use Rattle.run_memory.proofs.courses.part_at.Goals as goal

pub loop-part-preserved : goal.loop-part-preserved
loop-part-preserved c =
    c.loop-part.invariant
    ∙ part_later c.args.partition c.args.parts.now c.loop-part.part-index c.loop-part.left _ c.part-item.result c.loop-part-test.true c.part-item.is
    (sym c.same_partition.ensures ∙ c.if-not-same_partition.false) (omega (arith, c.if-left-eq0.false))

pub returns : goal.returns
returns c = sym (c.loop-part.invariant ∙ none_left c.args.partition c.args.parts.now c.loop-part.part-index c.loop-part.left c.loop-part-test.false)
