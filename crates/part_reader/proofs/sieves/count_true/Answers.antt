use Rattle.std.proofs.Common.{ap, arith, ◌∙◌}
use Rattle.std.proofs.lemmas.List.{take_all}
use Rattle.part_reader.specs.Sieves.{count_true}
use Rattle.part_reader.proofs.SiftedRows.{count_more, count_skip}
use Rattle.part_reader.proofs.sieves.count_true.Goals as goal

pub loop-is_true-preserved-then-not-is_true : goal.loop-is_true-preserved-then-not-is_true
loop-is_true-preserved-then-not-is_true c =
    let same = count_skip c.args.mask.now c.loop-is_true.is_true-index c.loop-is_true-test.true c.if-not-is_true.true in
    record { count = omega (arith, same, c.loop-is_true.invariant.count); few = omega (arith, c.loop-is_true.invariant.few) }

pub loop-is_true-preserved : goal.loop-is_true-preserved
loop-is_true-preserved c =
    let more = count_more c.args.mask.now c.loop-is_true.is_true-index c.loop-is_true-test.true c.if-not-is_true.false in
    record { count = omega (arith, more, c.loop-is_true.invariant.count); few = omega (arith, c.loop-is_true.invariant.few) }

pub returns : goal.returns
returns c = c.loop-is_true.invariant.count ∙ ap count_true (take_all c.loop-is_true.is_true-index c.args.mask.now c.loop-is_true-test.false)
