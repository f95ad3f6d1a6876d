-- the least so far
use Rattle.std.proofs.Common.{◌≡◌, take}
use Rattle.std.specs.List.{fold}
use Rattle.part_history.specs.predicate.Indexes.{lesser}
use Rattle.mt_plain.proofs.indexes.least_of.Given as goal

abbrev pub invariant-loop-other : goal.invariant-loop-other
invariant-loop-other l = l.least ≡ fold lesser l.first (take l.other-index l.others)
