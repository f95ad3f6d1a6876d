use Rattle.std.proofs.Common.{◌≡◌, ◌++◌, take, drop}
use Rattle.mt_outside.specs.Files.{appended}
use Rattle.disk_mem.proofs.folder.append_to.Given as goal

abbrev pub invariant-loop-place : goal.invariant-loop-place
invariant-loop-place l = record {
  same : l.files ≡ l.initial.files;
  passed : take l.place l.files.items ++ appended l.file l.bytes (drop l.place l.files.items) ≡ appended l.file l.bytes l.files.items;
}
