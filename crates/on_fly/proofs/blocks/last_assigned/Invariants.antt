-- what the assignments so far assign last
use Rattle.std.proofs.Common.{◌≡◌, option_copied, take}
use Rattle.on_fly.specs.Updates.{last_assigned}
use Rattle.on_fly.proofs.blocks.last_assigned.Given as goal

abbrev pub invariant-loop-assignment : goal.invariant-loop-assignment
invariant-loop-assignment l = option_copied l.last ≡ last_assigned l.place (take l.assignment-index l.assignments)
