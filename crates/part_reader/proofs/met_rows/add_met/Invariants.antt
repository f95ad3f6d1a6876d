-- the columns gone over got what is wanted of the granule, the others are as they were, and what was read ahead is that of their files
use Rattle.std.proofs.Common.{◌≡◌, ℕ, ◌≤◌, get_or, take}
use Rattle.mt_values.specs.Grid.{Cells}
use Rattle.mt_outside.specs.Leaves.{LeavesArm}
use Rattle.part_reader.specs.Ahead.{AreAhead}
use Rattle.part_reader.specs.Columns.{AreEach}
use Rattle.part_reader.specs.Granules.{column_in}
use Rattle.part_reader.specs.Picks.{GainsPicked}
use Rattle.part_reader.specs.Readings.{lone_chosen}
use Rattle.part_reader.proofs.met_rows.add_met.Given as goal

abbrev pub invariant-loop-number : goal.invariant-loop-number
invariant-loop-number g l = record {
  gained : AreEach (λ place. GainsPicked (column_in g.R.Dir.Dir.files l.source.part.now place) (lone_chosen l.granule) l.met.mask.items) (take l.number l.wanted) (take l.number l.initial.columns) (take l.number l.columns);
  rest : (k : ℕ) (d : Cells) → l.number ≤ k → get_or l.columns k d ≡ get_or l.initial.columns k d;
  ahead : AreAhead (g.R.Dir.Dir.files l.source.part.now.dir) l.source.most l.wanted l.aheads;
  arm : LeavesArm g.R.Arm l.initial.arm l.arm ⊥;
}
