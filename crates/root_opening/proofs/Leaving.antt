-- What calls of a disk leave of it and of its arm, by what is answered then.
use Rattle.std.proofs.Common.{◌≡◌, Err, Ok, Result, ap, refl}
use Rattle.std.specs.Result.{IsErrAnd, IsErrOf}
use Rattle.mt_outside.proofs.LeftDisks.{arm_stays, disk_as}
use Rattle.mt_outside.specs.declared.disk.Arm.{Ghosts as ArmGhosts}
use Rattle.mt_outside.specs.declared.disk.Disk.{Ghosts as DiskGhosts}
use Rattle.mt_outside.specs.declared.disk.DiskError.{DiskError}
use Rattle.mt_outside.specs.declared.disk.DiskError.TheVariants as failure
use Rattle.mt_outside.specs.DiskCauses.{HasDiskCause}
use Rattle.mt_outside.specs.Leaves.{LeavesDisk}
use Rattle.root_opening.specs.declared.opening.OpenFault.{OpenFault}
use Rattle.root_opening.specs.declared.opening.OpenFault.TheVariants as fault
use Rattle.root_opening.specs.Keeping.{OpenFaultOf}

-- ---- answers

-- a fault of the disk alone is told as one
told_disk : {T U : Type 0} (e : DiskError) (result : Result U OpenFault) → IsErrAnd result (OpenFaultOf e) → IsErrOf result fault.Disk → IsErrOf {T = T} (Err e) failure.Fault
told_disk e (Ok x) made is = absurd made
told_disk failure.Fault (Err f) made is = refl
told_disk failure.NoMemory (Err f) made is = absurd cc

disk_told : {T U : Type 0} (e : DiskError) (result : Result U OpenFault) → IsErrAnd result (OpenFaultOf e) → IsErrOf {T = T} (Err e) failure.Fault → IsErrOf result fault.Disk
disk_told e (Ok x) made is = absurd made
disk_told failure.Fault (Err f) made is = ap Err made
disk_told failure.NoMemory (Err f) made is = absurd cc

-- an error that is handed on is the same
told_same : {T U : Type 0} (e : OpenFault) (result : Result U OpenFault) → IsErrAnd result (λ f. f ≡ e) → IsErrOf result fault.Disk → IsErrOf {T = T} (Err e) fault.Disk
told_same e (Ok x) made is = absurd made
told_same e (Err f) made is = cc

same_told : {T U : Type 0} (e : OpenFault) (result : Result U OpenFault) → IsErrAnd result (λ f. f ≡ e) → IsErrOf {T = T} (Err e) fault.Disk → IsErrOf result fault.Disk
same_told e (Ok x) made is = absurd made
same_told e (Err f) made is = cc

module _ {D A S F : Type 0} {disks : DiskGhosts D A S F} {arms : ArmGhosts A S F} where
  -- ---- calls of the disk alone

  -- one that gave something
  pub disk_gave : {T : Type 0} (one two : D) (arm : A) (x : T) → disks.told two ≡ disks.told one → disks.started two ≡ disks.started one → HasDiskCause (disks.failed one) (disks.failed two) (Ok x) → LeavesDisk disks arms (one, arm) (two, arm) ⊥
  disk_gave one two arm x told started cause = disk_as (arm_stays one two arm (Ok x) told started cause) (λ f. absurd f) (λ f. cc)

  -- one that failed
  pub disk_failed : {T U : Type 0} (one two : D) (arm : A) (e : DiskError) (result : Result U OpenFault) → IsErrAnd result (OpenFaultOf e) → disks.told two ≡ disks.told one → disks.started two ≡ disks.started one
      → HasDiskCause {T = T} (disks.failed one) (disks.failed two) (Err e) → LeavesDisk disks arms (one, arm) (two, arm) (IsErrOf result fault.Disk)
  disk_failed {T} one two arm e result made told started cause = disk_as (arm_stays {T = T} one two arm (Err e) told started cause) (told_disk e result made) (disk_told e result made)

  -- ---- what is answered

  -- a fault is handed on
  pub disk_handed : {T U : Type 0} {one two : D × A} (e : OpenFault) (result : Result U OpenFault) → IsErrAnd result (λ f. f ≡ e) → LeavesDisk disks arms one two (IsErrOf {T = T} (Err e) fault.Disk) → LeavesDisk disks arms one two (IsErrOf result fault.Disk)
  disk_handed e result made left = disk_as left (told_same e result made) (same_told e result made)

  -- no call failed, and that is not what is answered
  pub disk_calm : {U : Type 0} {one two : D × A} (result : Result U OpenFault) → (IsErrOf result fault.Disk → ⊥) → LeavesDisk disks arms one two ⊥ → LeavesDisk disks arms one two (IsErrOf result fault.Disk)
  disk_calm result none left = disk_as left none (λ f. absurd f)
