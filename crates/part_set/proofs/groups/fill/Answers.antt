use Rattle.part_set.proofs.GroupSteps.{noted_more}
use Rattle.part_set.proofs.groups.fill.Goals as goal

pub loop-name-preserved : goal.loop-name-preserved
loop-name-preserved c = noted_more c.args.names.now c.loop-name.name-index c.name-item.result c.loop-name.groups c.note.new.groups c.loop-name-test.true c.name-item.is c.loop-name.invariant c.in_ok-note.ensures
