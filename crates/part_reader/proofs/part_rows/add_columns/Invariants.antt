-- the columns gone over got the granule's values, the others are as they were, and what was read ahead is that of their files
use Rattle.std.proofs.Common.{◌≡◌, ℕ, ◌≤◌, get_or, take}
use Rattle.mt_values.specs.Grid.{Cells}
use Rattle.mt_outside.specs.Leaves.{LeavesArm}
use Rattle.part_reader.specs.Ahead.{AreAhead}
use Rattle.part_reader.specs.Columns.{AreEach}
use Rattle.part_reader.specs.Granules.{GainsChosen, column_in}
use Rattle.part_reader.specs.Readings.{lone_chosen}
use Rattle.part_reader.proofs.part_rows.add_columns.Given as goal

abbrev pub invariant-loop-number : goal.invariant-loop-number
invariant-loop-number g l = record {
  gained : AreEach (λ place. GainsChosen (column_in g.R.Dir.Dir.files l.source.part.now place) (lone_chosen l.granule)) (take l.number l.places) (take l.number l.initial.columns) (take l.number l.columns);
  rest : (k : ℕ) (d : Cells) → l.number ≤ k → get_or l.columns k d ≡ get_or l.initial.columns k d;
  ahead : AreAhead (g.R.Dir.Dir.files l.source.part.now.dir) l.source.most l.places l.aheads;
  arm : LeavesArm g.R.Arm l.initial.arm l.arm ⊥;
}
