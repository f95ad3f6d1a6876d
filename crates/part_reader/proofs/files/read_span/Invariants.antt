-- what was read so far is a front of the bytes between the places
use Rattle.std.proofs.Common.{◌≡◌, ◌≤◌, ◌-◌, Some, drop, length, min, take, vec_len}
use Rattle.mt_outside.specs.Files.{Files, bytes_of}
use Rattle.mt_outside.specs.Leaves.{LeavesArm}
use Rattle.part_reader.proofs.files.read_span.Given as goal

abbrev pub invariant-loop-read : goal.invariant-loop-read
invariant-loop-read g l = record {
  read : (files : Files) → g.R.Dir.Dir.files l.dir ≡ Some files → take (vec_len l.bytes) (drop l.span.start (bytes_of l.file files)) ≡ l.bytes.items;
  within : vec_len l.bytes ≤ l.size;
  size : l.size ≡ l.span.end - l.span.start;
  arm : LeavesArm g.R.Arm l.initial.arm l.arm ⊥;
  room : length l.piece ≡ min l.size 65536;
}
