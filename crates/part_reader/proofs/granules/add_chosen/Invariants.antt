-- the column got the values of the granules before the first one of the run that is gone over
use Rattle.std.proofs.Common.{◌≡◌, ◌-◌, ◌≤◌, ◌++◌, true, replicate, take}
use Rattle.mt_outside.specs.Leaves.{LeavesArm}
use Rattle.part_reader.specs.Granules.{GainsChosen, column_in}
use Rattle.part_reader.proofs.granules.add_chosen.Given as goal

abbrev pub invariant-loop-granule : goal.invariant-loop-granule
invariant-loop-granule g l = record {
  before : l.first ≤ l.granule;
  run : take l.granule l.chosen ≡ take l.first l.chosen ++ replicate (l.granule - l.first) true;
  gained : GainsChosen (column_in g.R.Dir.Dir.files l.part l.number) (take l.first l.chosen) l.initial.column l.column;
  arm : LeavesArm g.R.Arm l.initial.arm l.arm ⊥;
}
