-- the answers so far, and those that are left
use Rattle.std.proofs.Common.{◌≡◌, ◌++◌, drop}
use Rattle.part_history.specs.predicate.Masks.{both}
use Rattle.mt_plain.proofs.narrowing.both.Given as goal

abbrev pub invariant-loop-place : goal.invariant-loop-place
invariant-loop-place l = l.answers.items ++ both (drop l.place l.some) (drop l.place l.others) ≡ both l.some l.others
