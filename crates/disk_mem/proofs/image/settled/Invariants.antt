use Rattle.std.proofs.Common.{◌≡◌, ◌++◌, map, drop}
use Rattle.mt_outside.specs.Disk.{before_clock}
use Rattle.fault_plan.specs.Images.{left_stamped}
use Rattle.disk_mem.proofs.image.settled.Given as goal

abbrev pub invariant-loop-stamped : goal.invariant-loop-stamped
invariant-loop-stamped l =
    l.left.items ++ map (left_stamped l.lose) (before_clock l.clock (drop l.stamped-index l.changes)) ≡ l.initial.left.items ++ map (left_stamped l.lose) (before_clock l.clock l.changes)
