-- What a run tells of damage.
use Rattle.std.proofs.Common.{◌≡◌, Result, Bool, ◌⊎◌, inl, inr}
use Rattle.mt_outside.specs.Disk.{Names}
use Rattle.root_log.specs.root_opening.declared.opening.OpenFault.{OpenFault}
use Rattle.root_log.specs.root_opening.declared.opening.OpenFault.TheVariants as opening
use Rattle.root_log.specs.root_opening.Opening.{IsNotDamaged, TellsDamage}
use Rattle.mt_program.specs.Damage.{IsDamagedRoot}
use Rattle.mt_program.specs.Endings.{MetNoDamage, status_of}
use Rattle.mt_program.specs.declared.serving.Ending.{Ending}
use Rattle.mt_program.specs.declared.status.Status.{Status}
use Rattle.mt_program.specs.declared.status.Status.TheVariants as status
use Rattle.mt_program.proofs.Heading.{not_damaged}

-- a root that was not opened is damaged where the status says so
pub not_opened : (names : Names) (fault : OpenFault) (ended : Status) → TellsDamage names fault → (IsNotDamaged fault → ended ≡ status.Damaged → ⊥) → ((ended ≡ status.Damaged → ⊥) ⊎ IsDamagedRoot names)
not_opened names opening.NoMemory ended tells none = inl (none tt)
not_opened names opening.Disk ended tells none = inl (none tt)
not_opened names (opening.Damaged damage) ended tells none = inr (damage, tells)

-- damage was met where the status says so
pub met_damage : (names : Names) (risen : Bool) (ended : Result Ending Status) → MetNoDamage ended ⊎ IsDamagedRoot names → status_of risen ended ≡ status.Damaged → IsDamagedRoot names
met_damage names risen ended (inr damaged) is = damaged
met_damage names risen ended (inl none) is = absurd (not_damaged risen ended none is)
