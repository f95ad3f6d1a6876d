use Rattle.row_merge.proofs.TestTables.{one_more}
use Rattle.row_merge.proofs.stream_tests.all_rows.Goals as goal

pub loop-text-preserved : goal.loop-text-preserved
loop-text-preserved c = one_more c.loop-text.inputs.items c.push.new.self.items c.in_ok-rows_of.field-0 c.in_ok-push.ensures.items c.loop-text.invariant c.in_ok-rows_of.ensures
