-- the columns gone over are read, and the others are as they were
use Rattle.std.proofs.Common.{◌≡◌, ℕ, ◌≤◌, get_or, take}
use Rattle.mt_values.specs.Grid.{Cells}
use Rattle.mt_outside.specs.Leaves.{LeavesArm}
use Rattle.part_reader.specs.Columns.{AreRead}
use Rattle.part_reader.proofs.reading.read_columns.Given as goal

abbrev pub invariant-loop-number : goal.invariant-loop-number
invariant-loop-number g l = record {
  read : AreRead (g.R.Dir.Dir.files l.part.dir) l.part.loaded.manifest (take l.number l.places) (take l.number l.initial.columns) (take l.number l.columns);
  rest : (k : ℕ) (d : Cells) → l.number ≤ k → get_or l.columns k d ≡ get_or l.initial.columns k d;
  arm : LeavesArm g.R.Arm l.initial.arm l.arm ⊥;
}
