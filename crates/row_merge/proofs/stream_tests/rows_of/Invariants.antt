-- the rows so far
use Rattle.mt_values.specs.Grid.{AreRowsOf}
use Rattle.row_merge.specs.TestTables.{letters}
use Rattle.row_merge.proofs.stream_tests.rows_of.Given as goal

abbrev pub invariant-loop-place : goal.invariant-loop-place
invariant-loop-place l = AreRowsOf letters l.rows.items
