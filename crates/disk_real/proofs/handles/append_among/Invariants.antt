-- the files are as they were, and the one that is looked for was not gone over
use Rattle.std.proofs.Common.{◌≡◌, IsTrue, drop}
use Rattle.disk_real.proofs.Opened.{has_in}
use Rattle.disk_real.proofs.handles.append_among.Given as goal

abbrev pub invariant-loop-place : goal.invariant-loop-place
invariant-loop-place l = record {
  same : l.files ≡ l.initial.files;
  left : IsTrue (has_in l.file (drop l.place l.files));
}
