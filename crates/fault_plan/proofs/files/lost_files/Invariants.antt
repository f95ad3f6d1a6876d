use Rattle.std.proofs.Common.{◌≡◌, map, take}
use Rattle.fault_plan.specs.Images.{lost_file}
use Rattle.fault_plan.proofs.files.lost_files.Given as goal

abbrev pub invariant-loop-written : goal.invariant-loop-written
invariant-loop-written l = l.left ≡ map lost_file (take l.written-index l.files)
