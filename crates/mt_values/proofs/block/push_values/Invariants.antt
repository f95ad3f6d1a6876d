-- the column got the values of the rows gone over
use Rattle.std.proofs.Common.{◌≡◌, ◌++◌, take}
use Rattle.mt_values.specs.Grid.{column_of}
use Rattle.mt_values.proofs.block.push_values.Given as goal

abbrev pub invariant-loop-row : goal.invariant-loop-row
invariant-loop-row l = l.column ≡ record { col_type = l.initial.column.col_type; values = l.initial.column.values ++ column_of l.place (take l.row-index l.rows) }
