-- the columns gone over got their values, and the others are as they were
use Rattle.std.proofs.Common.{◌≡◌, ℕ, ◌≤◌, get_or, take}
use Rattle.mt_values.specs.Grid.{Cells}
use Rattle.mt_outside.specs.Leaves.{LeavesArm}
use Rattle.part_reader.specs.Columns.{AreEach}
use Rattle.part_reader.specs.Granules.{GainsChosen, column_in}
use Rattle.part_reader.proofs.granules.add_granules.Given as goal

abbrev pub invariant-loop-number : goal.invariant-loop-number
invariant-loop-number g l = record {
  gained : AreEach (λ place. GainsChosen (column_in g.R.Dir.Dir.files l.part place) l.chosen) (take l.number l.places) (take l.number l.initial.columns) (take l.number l.columns);
  rest : (k : ℕ) (d : Cells) → l.number ≤ k → get_or l.columns k d ≡ get_or l.initial.columns k d;
  arm : LeavesArm g.R.Arm l.initial.arm l.arm ⊥;
}
