use Rattle.std.proofs.Common.{◌≡◌, ◌++◌, take, drop}
use Rattle.mt_outside.specs.Files.{settled_file}
use Rattle.disk_mem.proofs.folder.settle.Given as goal

abbrev pub invariant-loop-place : goal.invariant-loop-place
invariant-loop-place l = record {
  same : l.files ≡ l.initial.files;
  passed : take l.place l.files ++ settled_file l.file (drop l.place l.files) ≡ settled_file l.file l.files;
}
