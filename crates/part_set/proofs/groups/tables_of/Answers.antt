use Rattle.part_set.proofs.GroupSteps.{opened_more}
use Rattle.part_set.proofs.groups.tables_of.Goals as goal

pub loop-name-preserved : goal.loop-name-preserved
loop-name-preserved c = opened_more c.args.names.now c.loop-name.name-index c.name-item.result c.loop-name.groups c.open.new.groups c.loop-name-test.true c.name-item.is c.loop-name.invariant c.in_ok-open.ensures
