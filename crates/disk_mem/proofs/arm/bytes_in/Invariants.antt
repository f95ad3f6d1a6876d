use Rattle.std.proofs.Common.{◌≡◌, drop}
use Rattle.mt_outside.specs.Files.{bytes_of}
use Rattle.disk_mem.proofs.arm.bytes_in.Given as goal

abbrev pub invariant-loop-written : goal.invariant-loop-written
invariant-loop-written l = bytes_of l.file (drop l.written-index l.files) ≡ bytes_of l.file l.files
