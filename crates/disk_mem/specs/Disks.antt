-- A disk in memory as contracts see it.
use Rattle.std.specs.Prelude.{◌≡◌, ◌⊎◌, ◌↔◌, ◌-◌, ◌^◌, ◌==◌, ◌||◌, ℕ, List, Bool, false, Option, Some, None, IsTrue, Result, IsErrOf}
use Rattle.mt_outside.specs.declared.disk.DiskError.{DiskError}
use Rattle.mt_outside.specs.declared.disk.DiskError.TheVariants.{Fault}
use Rattle.mt_outside.specs.Disk.{Told}
use Rattle.fault_plan.specs.declared.plan.CallKind.{CallKind}
use Rattle.fault_plan.specs.declared.plan.CallKind.TheVariants as kind
use Rattle.fault_plan.specs.declared.plan.Plan.{Plan}
use Rattle.fault_plan.specs.Plan.{IsListed, is_listed, called, taken}

-- what it tells, the path that it was started with, its mark, which of its calls fail, and how many more of them pass where it is to stop
pub record DiskState : Type 0 where
  pub told : Told
  pub started : Option (List ℕ)
  pub clock : ℕ
  pub plan : Plan
  pub stop : Option ℕ

-- no further call passes
abbrev pub at_stop : Option ℕ → Bool
at_stop None = false
at_stop (Some left) = left == 0

-- the disk was stopped: its next call that can answer an error fails
abbrev pub IsStopped : DiskState → Type 0
IsStopped disk = IsTrue (at_stop disk.stop)

-- how many more calls pass after one more call
abbrev pub one_less : Option ℕ → Option ℕ
one_less None = None
one_less (Some left) = Some (left - 1)

-- the disk after it took over a count of failed calls
abbrev pub takes : ℕ → DiskState → DiskState
takes count disk = record { told = disk.told; started = disk.started; clock = disk.clock; plan = taken count disk.plan; stop = disk.stop }

-- a call of the disk: it answers a fault exactly where it is listed or the disk was stopped, and the count rises by one then and stays otherwise
pub record FailsOrStops {T : Type 0} (kind : CallKind) (old new : DiskState) (result : Result T DiskError) : Type 0 where
  pub exactly : IsErrOf result Fault ↔ (IsStopped old ⊎ IsListed old.plan kind)
  pub plan : new.plan ≡ called kind (at_stop old.stop || is_listed old.plan kind) old.plan
  pub stop : new.stop ≡ one_less old.stop

-- the mark stands at the last value of 64 bits
abbrev pub at_end : ℕ → Bool
at_end clock = clock == 2 ^ 64 - 1

-- a sync of the names: so, and where the mark can't be raised
pub record SyncFails {T : Type 0} (old new : DiskState) (result : Result T DiskError) : Type 0 where
  pub exactly : IsErrOf result Fault ↔ ((old.clock ≡ 2 ^ 64 - 1) ⊎ (IsStopped old ⊎ IsListed old.plan kind.SyncNames))
  pub plan : new.plan ≡ called kind.SyncNames (at_end old.clock || (at_stop old.stop || is_listed old.plan kind.SyncNames)) old.plan
  pub stop : new.stop ≡ one_less old.stop
