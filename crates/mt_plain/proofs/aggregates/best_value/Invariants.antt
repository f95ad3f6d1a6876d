-- each of the values so far is passed
use Rattle.std.proofs.Common.{◌≡◌, true, take}
use Rattle.std.specs.List.{All, list_any}
use Rattle.mt_plain.specs.Outcomes.{passes_by}
use Rattle.mt_plain.proofs.aggregates.best_value.Given as goal

abbrev pub invariant-loop-value : goal.invariant-loop-value
invariant-loop-value l = All (λ v. list_any (λ other. passes_by l.fn.function other v) l.values ≡ true) (take l.value-index l.values)
