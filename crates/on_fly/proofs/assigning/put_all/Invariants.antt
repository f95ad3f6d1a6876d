-- the values with what was assigned so far
use Rattle.std.proofs.Common.{◌≡◌, take}
use Rattle.on_fly.specs.Updates.{assigned_from}
use Rattle.on_fly.proofs.assigning.put_all.Given as goal

abbrev pub invariant-loop-assignment : goal.invariant-loop-assignment
invariant-loop-assignment l = l.values.items ≡ assigned_from l.row (take l.assignment-index l.assignments) l.fn.values.items
