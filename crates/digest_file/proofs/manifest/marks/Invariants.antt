-- the bytes up to the place are those of the marks
use Rattle.std.proofs.Common.{◌*◌, take}
use Rattle.digest_file.specs.Spellings.{AreMarks}
use Rattle.digest_file.proofs.manifest.marks.Given as goal

abbrev pub invariant-loop-place : goal.invariant-loop-place
invariant-loop-place l = AreMarks (take (40 * l.place) l.bytes) l.place l.files
