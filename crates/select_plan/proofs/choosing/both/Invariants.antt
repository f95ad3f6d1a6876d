-- the answers so far, and those that are left
use Rattle.std.proofs.Common.{◌≡◌, ◌++◌, drop}
use Rattle.mt_model.specs.predicate.Masks.{both}
use Rattle.select_plan.proofs.choosing.both.Given as goal

abbrev pub invariant-loop-place : goal.invariant-loop-place
invariant-loop-place l = l.answers.items ++ both (drop l.place l.some) (drop l.place l.others) ≡ both l.some l.others
