-- the inputs so far
use Rattle.std.proofs.Common.{All}
use Rattle.mt_values.specs.Grid.{AreRowsOf}
use Rattle.row_merge.specs.Merged.{inputs_of}
use Rattle.row_merge.specs.TestTables.{letters}
use Rattle.row_merge.proofs.stream_tests.all_rows.Given as goal

abbrev pub invariant-loop-text : goal.invariant-loop-text
invariant-loop-text l = All (AreRowsOf letters) (inputs_of l.inputs.items)
