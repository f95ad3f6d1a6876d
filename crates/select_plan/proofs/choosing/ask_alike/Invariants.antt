-- the conditions gone over
use Rattle.std.proofs.Common.{◌≡◌, map, take}
use Rattle.select_plan.specs.Plans.{asked_unknown}
use Rattle.select_plan.proofs.choosing.ask_alike.Given as goal

abbrev pub invariant-loop-condition : goal.invariant-loop-condition
invariant-loop-condition l = l.asked ≡ map (asked_unknown l.granules l.chosen) (take l.condition-index l.conditions)
