-- what was read so far is a front of the file
use Rattle.std.proofs.Common.{◌≡◌, Some, length, take, vec_len}
use Rattle.mt_outside.specs.Files.{Files, bytes_of}
use Rattle.mt_outside.specs.Leaves.{LeavesArm}
use Rattle.part_reader.proofs.files.read_file.Given as goal

abbrev pub invariant-loop-read : goal.invariant-loop-read
invariant-loop-read g l = record {
  read : (files : Files) → g.R.Dir.Dir.files l.dir ≡ Some files → take (vec_len l.bytes) (bytes_of l.file files) ≡ l.bytes.items;
  arm : LeavesArm g.R.Arm l.initial.arm l.arm ⊥;
  room : length l.piece ≡ 65536;
}
