use Rattle.std.proofs.Common.{◌≡◌, ◌++◌, [], take, drop}
use Rattle.rule_law.specs.mt_model.Rules.{is_one_of, summed}
use Rattle.rule_summing.specs.Summed.{changed_from}
use Rattle.rule_summing.proofs.sums.clear_row.Given as goal

abbrev pub invariant-loop-place : goal.invariant-loop-place
invariant-loop-place l = take l.place l.sums ++ changed_from (λ p v. summed (is_one_of l.places p) v []) l.place (drop l.place l.sums) ≡ changed_from (λ p v. summed (is_one_of l.places p) v []) 0 l.initial.sums
