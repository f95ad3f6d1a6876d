use Rattle.std.proofs.Common.{◌≡◌, ◌++◌, drop}
use Rattle.fault_plan.specs.Plan.{of_arm}
use Rattle.fault_plan.proofs.plan.calls_of_arm.Given as goal

abbrev pub invariant-loop-call : goal.invariant-loop-call
invariant-loop-call l = l.calls ++ of_arm l.arm (drop l.call-index l.listed) ≡ of_arm l.arm l.listed
