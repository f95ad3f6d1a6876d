-- Why a call has no result (docs/architecture.md, "Memory").
use Rattle.std.specs.Prelude.{◌≡◌, Result, Ok, Err}
use Rattle.mt_base.specs.declared.stop.Stop.{Stop}
use Rattle.mt_base.specs.declared.stop.Stop.TheVariants.{NoMemory, Refused}

-- where a refusal is why a call stopped, it is the one that is wanted
abbrev pub Refuses : {X E : Type 0} → Result X E → Stop E → Type 0
Refuses wanted NoMemory = Unit {0}
Refuses wanted (Refused why) = wanted ≡ Err why

-- a call gave what is wanted, its result or its refusal, unless memory ran out
abbrev pub Gives : {X E : Type 0} → Result X E → Result X (Stop E) → Type 0
Gives wanted (Ok x) = wanted ≡ Ok x
Gives wanted (Err why) = Refuses wanted why
