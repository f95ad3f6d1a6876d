-- the row has the values of the columns gone over
use Rattle.std.proofs.Common.{◌≡◌, take}
use Rattle.mt_values.specs.Grid.{row_at}
use Rattle.mt_values.proofs.block.Block.row.Given as goal

abbrev pub invariant-loop-column : goal.invariant-loop-column
invariant-loop-column l = l.row ≡ row_at (take l.column-index l.column-items) l.place
