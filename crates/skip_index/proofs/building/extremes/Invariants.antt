-- the least and the greatest of the values gone over
use Rattle.std.proofs.Common.{◌≡◌, fold, take}
use Rattle.mt_values.specs.Cells.{value_of}
use Rattle.column_file.proofs.Writing.{values_at}
use Rattle.skip_index.specs.Blocks.{greater, lesser}
use Rattle.skip_index.proofs.building.extremes.Given as goal

abbrev pub invariant-loop-place : goal.invariant-loop-place
invariant-loop-place l = record {
  least : value_of l.least ≡ fold lesser (value_of l.first) (values_at l.cells.values (take l.place-index l.places));
  greatest : value_of l.greatest ≡ fold greater (value_of l.first) (values_at l.cells.values (take l.place-index l.places));
}
