-- no byte gone over is a dot
use Rattle.std.proofs.Common.{take}
use Rattle.part_set.specs.RootNames.{HasNoDot}
use Rattle.part_set.proofs.root_name.split.Given as goal

abbrev pub invariant-loop-at : goal.invariant-loop-at
invariant-loop-at l = HasNoDot (take l.at l.text)
