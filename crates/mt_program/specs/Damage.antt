-- What is written of a root that is not opened (docs/replies.md, "Damage").
use Rattle.std.specs.Prelude.{◌≡◌, ◌⊎◌, ℕ, List, [], ◌∷◌, ◌++◌, codes, flat_map, Option}
use Rattle.std.specs.Io.KnownBytes.{Appends}
use Rattle.mt_values.specs.Printing.{escaped}
use Rattle.mt_outside.specs.Causes.{Rose}
use Rattle.mt_outside.specs.Disk.{Names}
use Rattle.root_log.specs.root_opening.declared.opening.Damage.{Damage}
use Rattle.root_log.specs.root_opening.declared.opening.Damage.TheVariants as damage
use Rattle.root_log.specs.root_opening.declared.opening.OpenFault.{OpenFault}
use Rattle.root_log.specs.root_opening.declared.opening.OpenFault.TheVariants as fault
use Rattle.root_log.specs.root_opening.Opening.{IsRootDamage}
use Rattle.mt_base.specs.Files.{file_name}
use Rattle.session.specs.run_streams.Streams.{AppendsFront}
use Rattle.mt_program.specs.declared.status.Status.{Status}
use Rattle.mt_program.specs.declared.status.Status.TheVariants as status

-- a root of these names is damaged
abbrev pub IsDamagedRoot : Names → Type 0
IsDamagedRoot names = (damage : Damage) × IsRootDamage names damage

-- what keeps a root from being opened, in words
abbrev pub damage_text : Damage → List ℕ
damage_text (damage.Name name) = codes "name " ++ flat_map escaped name
damage_text (damage.Orphan name) = codes "orphan " ++ name
damage_text (damage.Overlap a b) = codes "overlap " ++ a ++ 32 ∷ b
damage_text (damage.File name f) = codes "file " ++ name ++ 32 ∷ file_name f

-- the line that tells it
abbrev pub damage_line : Damage → List ℕ
damage_line d = codes "DAMAGED " ++ damage_text d ++ 10 ∷ []

-- What is written where the root is damaged: the line, or a front of it where the sink failed, and nothing where the run ended before.
abbrev pub WritesDamage : Status → List ℕ → ℕ → ℕ → Option (List ℕ) → Option (List ℕ) → Type 0
WritesDamage status.Damaged line failed failed_now before after = Appends before after line ⊎ (Rose failed failed_now × AppendsFront before after line)
WritesDamage status.NotWords line failed failed_now before after = after ≡ before
WritesDamage status.DiskFault line failed failed_now before after = after ≡ before
WritesDamage status.NoMemory line failed failed_now before after = after ≡ before
WritesDamage status.Done line failed failed_now before after = ⊥
WritesDamage status.Refused line failed failed_now before after = ⊥
WritesDamage status.ReadFault line failed failed_now before after = ⊥
WritesDamage status.WriteFault line failed failed_now before after = ⊥
WritesDamage status.TooLong line failed failed_now before after = ⊥

-- what is written where the root was not opened: of damage its line, and else nothing
abbrev pub WritesFault : OpenFault → Status → ℕ → ℕ → Option (List ℕ) → Option (List ℕ) → Type 0
WritesFault (fault.Damaged d) ended failed failed_now before after = WritesDamage ended (damage_line d) failed failed_now before after
WritesFault fault.NoMemory ended failed failed_now before after = (ended ≡ status.NoMemory) × (after ≡ before)
WritesFault fault.Disk ended failed failed_now before after = (ended ≡ status.DiskFault) × (after ≡ before)
