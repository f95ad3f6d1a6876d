-- none of the conditions gone over has a test
use Rattle.std.proofs.Common.{◌≡◌, [], All, take}
use Rattle.mt_values.specs.declared.expr.Test.{Test}
use Rattle.mt_values.specs.Conditions.{Condition, tests_of}
use Rattle.select_plan.proofs.choosing.have_tests.Given as goal

abbrev pub invariant-loop-condition : goal.invariant-loop-condition
invariant-loop-condition l = All (λ (c : Condition Test). tests_of c ≡ []) (take l.condition-index l.conditions)
