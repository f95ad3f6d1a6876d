-- no byte gone over is an underscore
use Rattle.std.proofs.Common.{take}
use Rattle.part_name.specs.Fields.{HasNoBar}
use Rattle.part_name.proofs.reading.split.Given as goal

abbrev pub invariant-loop-at : goal.invariant-loop-at
invariant-loop-at l = HasNoBar (take l.at l.text)
