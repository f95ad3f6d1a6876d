-- When a disk, an arm or a stage may answer a fault, and when its count stays (docs/architecture.md, "Counts of faults").
use Rattle.std.specs.Prelude.{◌≡◌, ℕ, ◌≤◌, Result, IsErrOf, OnOk}
use Rattle.mt_outside.specs.Causes.{Rose}
use Rattle.mt_outside.specs.declared.disk.DiskError.{DiskError}
use Rattle.mt_outside.specs.declared.disk.DiskError.TheVariants.{Fault, NoMemory}

-- a count never falls; it rises where a fault is answered, and there alone: out of memory is no fault
pub record HasDiskCause {T : Type 0} (before now : ℕ) (result : Result T DiskError) : Type 0 where
  pub later : before ≤ now
  pub failed : IsErrOf result Fault → Rose before now
  pub ok : OnOk result (now ≡ before)
  pub memory : IsErrOf result NoMemory → now ≡ before

-- the same of a call that takes over a stage of which so many calls had failed: without any the count rises for no other cause
pub record HasStageCause {T : Type 0} (stage before now : ℕ) (result : Result T DiskError) : Type 0 where
  pub later : before ≤ now
  pub failed : IsErrOf result Fault → Rose before now
  pub ok : stage ≡ 0 → OnOk result (now ≡ before)
  pub memory : stage ≡ 0 → IsErrOf result NoMemory → now ≡ before
