use Rattle.std.proofs.Common.{◌≡◌, ◌≤◌, ◌++◌, map, drop}
use Rattle.mt_outside.specs.Disk.{at_clock}
use Rattle.fault_plan.specs.Images.{happened, left_stamped}
use Rattle.disk_mem.proofs.image.unsettled.Given as goal

abbrev pub invariant-loop-stamped : goal.invariant-loop-stamped
invariant-loop-stamped l = record {
  few : l.number ≤ l.stamped-index;
  so_far : l.left.items ++ map (left_stamped l.lose) (happened l.choice l.number (at_clock l.clock (drop l.stamped-index l.changes)))
      ≡ l.initial.left.items ++ map (left_stamped l.lose) (happened l.choice 0 (at_clock l.clock l.changes));
}
