-- the files gone over are compared, and their places fit 32 bits
use Rattle.std.proofs.Common.{◌≤◌, ◌^◌}
use Rattle.mt_outside.specs.Leaves.{LeavesArm}
use Rattle.part_reader.proofs.ComparedColumns.{AreGoneOver}
use Rattle.part_reader.proofs.checking.check_part.Given as goal

abbrev pub invariant-loop-place : goal.invariant-loop-place
invariant-loop-place g l = record {
  gone : AreGoneOver (g.R.Dir.Dir.files l.part.dir) l.loaded.schema l.loaded l.place l.agreed;
  few : l.place ≤ 2 ^ 32;
  arm : LeavesArm g.R.Arm l.initial.arm l.arm ⊥;
}
