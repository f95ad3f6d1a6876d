use Rattle.std.proofs.Common.{◌≡◌, ◌++◌, take, drop}
use Rattle.rule_summing.specs.Summed.{added_at, changed_from}
use Rattle.rule_summing.proofs.sums.add_row.Given as goal

abbrev pub invariant-loop-place : goal.invariant-loop-place
invariant-loop-place l = take l.place l.sums ++ changed_from (added_at l.places l.row) l.place (drop l.place l.sums) ≡ changed_from (added_at l.places l.row) 0 l.initial.sums
