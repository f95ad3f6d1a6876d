-- What becomes of a work that is carried out (docs/architecture.md, "The lock").
use Rattle.std.specs.Prelude.{◌≡◌, ◌-◌, ℕ, Option, Some, None}
use Rattle.mt_outside.specs.Files.{Files}
use Rattle.row_merge.specs.MergedParts.{ExplainsMerge}
use Rattle.shared_store.specs.durable_commit.declared.causes.Refused.{Refused as Cause}
use Rattle.shared_store.specs.part_reader.declared.reading.PartFault.TheVariants as fault
use Rattle.shared_store.specs.part_reader.Faults.{IsNoDamage}
use Rattle.shared_store.specs.root_commits.mt_model.History.{History}
use Rattle.shared_store.specs.root_store.declared.store.CoreStore.{CoreStore}
use Rattle.shared_store.specs.declared.work.Work.{Work}
use Rattle.shared_store.specs.Sharing.{AtOpening}
use Rattle.shared_store.specs.Stood.{Premise}
use Rattle.shared_store.specs.Tallies.{Tally, tally}
use Rattle.shared_store.specs.Turns.{CountsTurn, ShowsDone, ShowsGone, ShowsRefused}
use Rattle.merge_workers.specs.declared.carrying.Carried.{Carried}
use Rattle.merge_workers.specs.declared.carrying.Carried.TheVariants.{Done, Gone, Refused, Unread}

-- why its commit was refused, where it was
abbrev pub why_refused : Carried → Option Cause
why_refused Done = None
why_refused (Gone name) = None
why_refused (Refused cause) = Some cause
why_refused (Unread name why) = None

-- what the store and the disk's count showed at its turn; one that was not read had none
abbrev pub ShowsCarried : {F : Type 0} → Work F → Carried → CoreStore F → ℕ → Type 0
ShowsCarried work Done store failed = ShowsDone work store failed
ShowsCarried work (Gone name) store failed = ShowsGone work name store failed
ShowsCarried work (Refused cause) store failed = ShowsRefused work cause store failed
ShowsCarried work (Unread name why) store failed = ⊥

-- A work that was put had a turn, which showed why it was answered so; no call of what was sealed for it had failed. One that was not read was let go: the share has one work less out.
abbrev pub CarriedAt : {F : Type 0} → (F → Option Files) → (Premise → Type 0) → History → AtOpening → ℕ → Work F → Tally → Tally → Carried → Type 0
CarriedAt files_of given before o whole work old new (Unread name why) = new ≡ tally old.parts (old.out - 1) old.stops old.levels old.faults
CarriedAt files_of given before o whole work old new carried =
    (found : History) × CountsTurn files_of given before o found whole 0 (old.out - 1) (why_refused carried) (ShowsCarried work carried) old new

-- a call of the arm failed
abbrev pub IsFault : Carried → Type 0
IsFault Done = ⊥
IsFault (Gone name) = ⊥
IsFault (Refused cause) = ⊥
IsFault (Unread name why) = why ≡ fault.Fault

-- what is said of a part that was not read: it is one of the work's, and of which bytes it is
abbrev pub IsExplained : {F : Type 0} → (F → Option Files) → Work F → Carried → Type 0
IsExplained files_of work Done = Unit {0}
IsExplained files_of work (Gone name) = Unit {0}
IsExplained files_of work (Refused cause) = Unit {0}
IsExplained files_of work (Unread name why) = ExplainsMerge files_of work.schema work.sources.items (name, why)

-- no damage is told
abbrev pub NeverDamaged : Carried → Type 0
NeverDamaged Done = Unit {0}
NeverDamaged (Gone name) = Unit {0}
NeverDamaged (Refused cause) = Unit {0}
NeverDamaged (Unread name why) = IsNoDamage why
