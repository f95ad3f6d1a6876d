-- the columns gone over keep to their types
use Rattle.std.proofs.Common.{All, take}
use Rattle.mt_values.specs.Grid.{AreOfType}
use Rattle.mt_values.proofs.block.Block.of_columns.Given as goal

abbrev pub invariant-loop-column : goal.invariant-loop-column
invariant-loop-column l = All AreOfType (take l.column-index l.column-items)
