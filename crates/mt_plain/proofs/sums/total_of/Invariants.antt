-- the sum so far
use Rattle.std.proofs.Common.{◌≡◌, take}
use Rattle.part_history.specs.mt_model.Rules.{total}
use Rattle.mt_plain.proofs.sums.total_of.Given as goal

abbrev pub invariant-loop-value : goal.invariant-loop-value
invariant-loop-value l = l.sum ≡ total (take l.value-index l.values)
