-- the sink got what came out of the rows that were taken
use Rattle.std.proofs.Common.{All, List}
use Rattle.mt_base.specs.declared.partition.Partition.{Partition}
use Rattle.mt_values.specs.Schemas.{column_types}
use Rattle.mt_values.specs.Values.{Row}
use Rattle.row_merge.specs.Merged.{ArePartRows}
use Rattle.row_merge.specs.MergedParts.{PartsHold}
use Rattle.row_merge.specs.Sinks.{GetsSome}
use Rattle.row_merge.specs.Streams.{AreLater, HasPending, IsLeft, IsFolding, IsStream, LeavesBoth, rows_to_come}
use Rattle.row_merge.proofs.sink.fold_stream.Given as goal

abbrev pub invariant-rows : goal.invariant-rows
invariant-rows g l = record {
  stream : IsStream l.inputs l.stream;
  later : AreLater l.fn.stream.readers.items l.stream.readers.items;
  gets : GetsSome g.T.RowSink.gets l.fn.out l.out;
  current : HasPending (g.Q.RowRule.holds l.rule) (g.Q.RowRule.takes l.rule) (column_types l.inputs.schema.now) l.current;
  merging : (partition : Partition) (rows left : List (List Row)) → g.Q.RowRule.apart l.rule l.inputs.places.now → PartsHold g.R.Dir.Dir.files l.inputs.schema.now l.inputs.parts.now rows → IsLeft l.fn.stream rows left
      → All (ArePartRows l.inputs.schema.now partition) left → IsFolding g.T.RowSink.gets (g.Q.RowRule.run l.rule) (g.Q.RowRule.holds l.rule) (g.Q.RowRule.takes l.rule) l.inputs left rows l.stream l.current l.fn.out l.out;
  leaves : LeavesBoth g.R.Arm l.fn.arm l.arm (g.T.RowSink.failed l.fn.out) (g.T.RowSink.failed l.out) ⊥;
}

abbrev pub decreases-rows : goal.decreases-rows
decreases-rows g l = rows_to_come l.stream
