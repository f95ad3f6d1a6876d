-- A folder that is being made, as contracts see it.
use Rattle.std.specs.Prelude.{List}
use Rattle.mt_outside.specs.declared.disk.Written.{Written}
use Rattle.fault_plan.specs.declared.plan.Plan.{Plan}

-- the files so far, and which calls fail
pub record StageState : Type 0 where
  pub files : List Written
  pub plan : Plan
