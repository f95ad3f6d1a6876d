use Rattle.std.proofs.Common.{◌≡◌, ◌++◌, drop}
use Rattle.fault_plan.specs.Plan.{of_stage}
use Rattle.fault_plan.proofs.plan.calls_of_stage.Given as goal

abbrev pub invariant-loop-call : goal.invariant-loop-call
invariant-loop-call l = l.calls ++ of_stage l.stage (drop l.call-index l.listed) ≡ of_stage l.stage l.listed
