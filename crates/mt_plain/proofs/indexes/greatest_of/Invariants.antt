-- the greatest so far
use Rattle.std.proofs.Common.{◌≡◌, take}
use Rattle.std.specs.List.{fold}
use Rattle.part_history.specs.predicate.Indexes.{greater}
use Rattle.mt_plain.proofs.indexes.greatest_of.Given as goal

abbrev pub invariant-loop-other : goal.invariant-loop-other
invariant-loop-other l = l.greatest ≡ fold greater l.first (take l.other-index l.others)
