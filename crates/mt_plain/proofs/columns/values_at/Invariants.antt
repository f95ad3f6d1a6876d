-- the values of the rows so far
use Rattle.std.proofs.Common.{◌≡◌, take}
use Rattle.mt_values.specs.Grid.{column_of}
use Rattle.mt_plain.proofs.columns.values_at.Given as goal

abbrev pub invariant-loop-row : goal.invariant-loop-row
invariant-loop-row l = l.values ≡ column_of l.place (take l.row-index l.rows)
