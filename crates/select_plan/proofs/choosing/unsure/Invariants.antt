-- the answers so far, and those that are left
use Rattle.select_plan.proofs.Planning.{UnsureFrom}
use Rattle.select_plan.proofs.choosing.unsure.Given as goal

abbrev pub invariant-loop-place : goal.invariant-loop-place
invariant-loop-place l = UnsureFrom l.condition l.boxes l.chosen l.answers.items l.place
