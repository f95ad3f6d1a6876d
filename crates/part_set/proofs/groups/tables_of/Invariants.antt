-- each table gone over has its list, and no other
use Rattle.std.proofs.Common.{[], take}
use Rattle.part_set.specs.Groups.{AreGroups}
use Rattle.part_set.proofs.groups.tables_of.Given as goal

abbrev pub invariant-loop-name : goal.invariant-loop-name
invariant-loop-name l = AreGroups (take l.name-index l.names) [] l.groups
