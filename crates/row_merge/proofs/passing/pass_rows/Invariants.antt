-- what came out of the rows that were taken is in the part that is written
use Rattle.std.proofs.Common.{◌≡◌, ◌≤◌, List, length}
use Rattle.std.specs.List.{range_with_len}
use Rattle.mt_values.specs.Schemas.{column_types}
use Rattle.mt_values.specs.Values.{Row}
use Rattle.row_merge.specs.Streams.{HasPending, IsMerging, WentOn, rows_to_come}
use Rattle.row_merge.proofs.passing.pass_rows.Given as goal

abbrev pub invariant-rows : goal.invariant-rows
invariant-rows g l = record {
  on : WentOn l.inputs l.fn.stream l.stream l.fn.out l.out;
  current : HasPending (g.Q.RowRule.holds l.rule) (g.Q.RowRule.takes l.rule) (column_types l.inputs.schema.now) l.key;
  order : l.order.items ≡ range_with_len 0 (length l.order.items);
  merging : (rows : List (List Row)) → g.Q.RowRule.apart l.rule l.inputs.places.now
      → IsMerging (g.Q.RowRule.run l.rule) (g.Q.RowRule.holds l.rule) (g.Q.RowRule.takes l.rule) l.inputs rows l.fn.stream l.fn.current l.fn.out
      → IsMerging (g.Q.RowRule.run l.rule) (g.Q.RowRule.holds l.rule) (g.Q.RowRule.takes l.rule) l.inputs rows l.stream l.key l.out;
  fewer : rows_to_come l.stream ≤ rows_to_come l.fn.stream;
  failed : l.out.stage.failed ≡ l.fn.out.stage.failed;
}

abbrev pub decreases-rows : goal.decreases-rows
decreases-rows g l = rows_to_come l.stream
