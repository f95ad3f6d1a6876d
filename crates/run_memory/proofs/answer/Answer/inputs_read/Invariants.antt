-- the rows of the inputs so far are of the table's types
use Rattle.std.proofs.Common.{All}
use Rattle.mt_values.specs.Grid.{AreRowsOf}
use Rattle.mt_values.specs.Schemas.{column_types}
use Rattle.row_merge.specs.Merged.{inputs_of}
use Rattle.run_memory.proofs.answer.Answer.inputs_read.Given as goal

abbrev pub invariant-loop-input : goal.invariant-loop-input
invariant-loop-input l = All (AreRowsOf (column_types l.schema)) (inputs_of l.inputs.rows.items)
