-- those so far are among the lists
use Rattle.std.proofs.Common.{List, take}
use Rattle.std.specs.List.{Contains}
use Rattle.mt_values.specs.Values.{Row}
use Rattle.mt_plain.proofs.merges.are_among.Given as goal

abbrev pub invariant-loop-other : goal.invariant-loop-other
invariant-loop-other l = (x : List Row) → Contains (take l.other-index l.others) x → Contains l.lists x
