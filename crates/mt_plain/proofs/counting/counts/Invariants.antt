-- the numbers over the portions so far
use Rattle.std.proofs.Common.{◌≡◌, take}
use Rattle.part_history.specs.mt_model.Explain.{counts_of}
use Rattle.mt_plain.proofs.counting.counts.Given as goal

abbrev pub invariant-loop-portion : goal.invariant-loop-portion
invariant-loop-portion l = l.counts ≡ counts_of l.schema l.mutations l.is_final l.condition (take l.portion-index l.portions)
