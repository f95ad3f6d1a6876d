-- the counts of the parts gone over
use Rattle.std.proofs.Common.{◌≡◌, take}
use Rattle.select_plan.specs.Plans.{counts_over}
use Rattle.select_plan.proofs.counting.Plan.counts.Given as goal

abbrev pub invariant-loop-chosen : goal.invariant-loop-chosen
invariant-loop-chosen l = l.counts ≡ counts_over (take l.chosen-index l.self.parts.items)
