-- the values so far, each once
use Rattle.std.proofs.Common.{◌≡◌, take}
use Rattle.part_history.specs.predicate.Indexes.{distinct_of}
use Rattle.mt_plain.proofs.indexes.distinct_of.Given as goal

abbrev pub invariant-loop-value : goal.invariant-loop-value
invariant-loop-value l = l.distinct ≡ distinct_of (take l.value-index l.values)
