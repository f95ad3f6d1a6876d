-- the columns of the assignments so far are marked
use Rattle.std.proofs.Common.{take}
use Rattle.on_fly.specs.Updates.{EndsMarked, MarksAll}
use Rattle.on_fly.proofs.unknown.mark_all.Given as goal

abbrev pub invariant-loop-assignment : goal.invariant-loop-assignment
invariant-loop-assignment l = record {
  marks : MarksAll (take l.assignment-index l.assignments) l.fn.unknown.items l.unknown.items;
  ends : EndsMarked l.fn.unknown.items → EndsMarked l.unknown.items;
}
