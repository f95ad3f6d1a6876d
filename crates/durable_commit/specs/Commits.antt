-- Why a command is not committed, and what the annals list of one that is (docs/architecture.md, "Commits").
use Rattle.std.specs.Prelude.{◌≡◌, ℕ, Option, Some, None, if◌then◌else◌, nat_lt}
use Rattle.mt_values.specs.declared.command.Command.{Command}
use Rattle.mt_values.specs.declared.command.Entry.{Entry}
use Rattle.mt_values.specs.Annals.{Told}
use Rattle.mt_outside.specs.declared.disk.DiskError.{DiskError}
use Rattle.mt_outside.specs.declared.disk.DiskError.TheVariants as failure
use Rattle.durable_commit.specs.declared.causes.Refused.{Refused}
use Rattle.durable_commit.specs.declared.causes.Refused.TheVariants as refused

-- none, or a cause that the store and the disk's count do not show
abbrev pub IsOutside : Option Refused → Type 0
IsOutside None = Unit {0}
IsOutside (Some refused.NoMemory) = Unit {0}
IsOutside (Some refused.Disk) = Unit {0}
IsOutside (Some (refused.Stopped opened now)) = ⊥
IsOutside (Some refused.Exists) = ⊥
IsOutside (Some (refused.Limit l)) = ⊥

-- the disk's count of faults is above the one at opening
abbrev pub stopped_by : ℕ → ℕ → Option Refused
stopped_by opened now = if nat_lt opened now then Some (refused.Stopped opened now) else None

-- of what was published, or was not
abbrev pub refused_by_disk : DiskError → Refused
refused_by_disk failure.NoMemory = refused.NoMemory
refused_by_disk failure.Fault = refused.Disk

-- a command of a session
abbrev pub entry_of : ℕ → Command → Entry
entry_of session command = record { session = session; command = command }

-- the list stays, whatever is begun; where nothing was told nothing is
abbrev pub SameList : Option Told → Option Told → Type 0
SameList (Some t) (Some u) = u.list ≡ t.list
SameList None new = new ≡ None
SameList (Some t) None = ⊥
