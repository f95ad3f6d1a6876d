-- what came out of the rows that were taken is in the part that is written
use Rattle.std.proofs.Common.{◌≡◌, All, List, length}
use Rattle.std.specs.List.{range_with_len}
use Rattle.mt_base.specs.declared.partition.Partition.{Partition}
use Rattle.mt_values.specs.Schemas.{column_types}
use Rattle.mt_values.specs.Values.{Row}
use Rattle.row_merge.specs.Merged.{ArePartRows}
use Rattle.row_merge.specs.MergedParts.{PartsHold}
use Rattle.row_merge.specs.Streams.{HasPending, IsLeft, IsMerging, LeavesBoth, WentOn, rows_to_come}
use Rattle.row_merge.proofs.streamed.merge_stream.Given as goal

abbrev pub invariant-rows : goal.invariant-rows
invariant-rows g l = record {
  on : WentOn l.inputs l.fn.stream l.stream l.fn.out l.out;
  order : l.order.items ≡ range_with_len 0 (length l.order.items);
  current : HasPending (g.Q.RowRule.holds l.rule) (g.Q.RowRule.takes l.rule) (column_types l.inputs.schema.now) l.current;
  merging : (partition : Partition) (rows : List (List Row)) → g.Q.RowRule.apart l.rule l.inputs.places.now → PartsHold g.R.Dir.Dir.files l.inputs.schema.now l.inputs.parts.now rows → IsLeft l.fn.stream rows rows
      → All (ArePartRows l.inputs.schema.now partition) rows → IsMerging (g.Q.RowRule.run l.rule) (g.Q.RowRule.holds l.rule) (g.Q.RowRule.takes l.rule) l.inputs rows l.stream l.current l.out;
  leaves : LeavesBoth g.R.Arm l.fn.arm l.arm l.fn.out.stage.failed l.out.stage.failed ⊥;
}

abbrev pub decreases-rows : goal.decreases-rows
decreases-rows g l = rows_to_come l.stream
