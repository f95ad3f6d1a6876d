use Rattle.part_set.proofs.Clearing.{clears_all, clears_more, clears_none}
use Rattle.part_set.proofs.tables.TableParts.clear_marks.Goals as goal

pub loop-source-init : goal.loop-source-init
loop-source-init g c = clears_none c.args.sources.now c.args.self.now

pub loop-source-preserved : goal.loop-source-preserved
loop-source-preserved g c =
    clears_more c.loop-source.source-index c.args.sources.now c.args.self.now c.loop-source.self c.clear_mark.new.self c.source-item.result c.loop-source-test.true c.source-item.is c.loop-source.invariant c.clear_mark.ensures.cleared c.clear_mark.ensures.rooms

pub returns-clause-cleared : goal.returns-clause-cleared
returns-clause-cleared g c = clears_all c.loop-source.source-index c.args.sources.now c.args.self.now c.loop-source.self c.loop-source-test.false c.loop-source.invariant

pub returns-clause-rooms : goal.returns-clause-rooms
returns-clause-rooms g c = c.loop-source.invariant.rooms
