-- Calls that are listed or not.
use Rattle.std.proofs.Common.{◌≡◌, Bool, true, false, Ok, Err, rules, sym, ◌∙◌}
use Rattle.mt_outside.specs.declared.disk.DiskError.TheVariants.{Fault}
use Rattle.fault_plan.specs.declared.plan.CallKind.{CallKind}
use Rattle.fault_plan.specs.declared.plan.Plan.{Plan}
use Rattle.fault_plan.specs.Plan.{FailsAsListed, is_listed, called}

-- a call that is not listed passes
pub passes_unlisted : {T : Type 0} (kind : CallKind) (old new : Plan) (value : T) (fails : Bool) → fails ≡ is_listed old kind → fails ≡ false
    → new ≡ called kind (is_listed old kind) old → FailsAsListed kind old new (Ok value)
passes_unlisted kind old new value fails told passes plan =
    let unlisted : is_listed old kind ≡ false = sym told ∙ passes in
    record { exactly = search (rules, unlisted); plan = plan }

-- a call that is listed fails
pub fails_listed : {T : Type 0} (kind : CallKind) (old new : Plan) (fails : Bool) → fails ≡ is_listed old kind → fails ≡ true
    → new ≡ called kind (is_listed old kind) old → FailsAsListed {T = T} kind old new (Err Fault)
fails_listed kind old new fails told is plan =
    let listed : is_listed old kind ≡ true = sym told ∙ is in
    record { exactly = search (rules, listed); plan = plan }
