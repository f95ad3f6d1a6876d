-- the conjuncts gone over
use Rattle.std.proofs.Common.{◌≡◌, take}
use Rattle.select_plan.specs.Plans.{asked_among}
use Rattle.select_plan.proofs.choosing.ask.Given as goal

abbrev pub invariant-loop-conjunct : goal.invariant-loop-conjunct
invariant-loop-conjunct g l = l.asked ≡ asked_among l.schema (take l.conjunct-index l.conjuncts) l.kept l.chosen
