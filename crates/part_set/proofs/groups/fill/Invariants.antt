-- each table has its parts among the names gone over
use Rattle.std.proofs.Common.{take}
use Rattle.part_set.specs.Groups.{AreGroups}
use Rattle.part_set.proofs.groups.fill.Given as goal

abbrev pub invariant-loop-name : goal.invariant-loop-name
invariant-loop-name l = AreGroups l.names (take l.name-index l.names) l.groups
