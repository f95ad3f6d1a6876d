-- the values of the cells gone over
use Rattle.std.proofs.Common.{◌≡◌, map, take}
use Rattle.mt_values.specs.Cells.{value_of}
use Rattle.skip_index.proofs.values.values_of.Given as goal

abbrev pub invariant-loop-cell : goal.invariant-loop-cell
invariant-loop-cell l = l.values ≡ map value_of (take l.cell-index l.cells)
