-- What a call leaves of an arm, or of a disk and an arm of it, that it only reads with (docs/architecture.md, "Counts of faults").
use Rattle.std.specs.Prelude.{◌≡◌, ◌≤◌, ◌⊎◌}
use Rattle.mt_outside.specs.declared.disk.Arm.{Ghosts as ArmGhosts}
use Rattle.mt_outside.specs.declared.disk.Disk.{Ghosts as DiskGhosts}
use Rattle.mt_outside.specs.Causes.{Rose}

-- Whether the arm tells stays. Its count of faults is not below: it rises where the call answers a fault, and else it stays.
pub record LeavesArm {A S F : Type 0} (arms : ArmGhosts A S F) (before now : A) (faults : Type 0) : Type 0 where
  pub tells : arms.tells now ≡ arms.tells before
  pub later : arms.failed before ≤ arms.failed now
  pub fault : faults → Rose (arms.failed before) (arms.failed now)
  pub calm : (faults → ⊥) → arms.failed now ≡ arms.failed before

-- What is told of the disk stays, and its path, and whether the arm tells. Neither count of faults is below: one of them rises where the
-- call answers a fault, and else both stay.
pub record LeavesDisk {D A S F : Type 0} (disks : DiskGhosts D A S F) (arms : ArmGhosts A S F) (before now : D × A) (faults : Type 0) : Type 0 where
  pub told : disks.told now.0 ≡ disks.told before.0
  pub started : disks.started now.0 ≡ disks.started before.0
  pub tells : arms.tells now.1 ≡ arms.tells before.1
  pub later : disks.failed before.0 ≤ disks.failed now.0
  pub arm_later : arms.failed before.1 ≤ arms.failed now.1
  pub fault : faults → Rose (disks.failed before.0) (disks.failed now.0) ⊎ Rose (arms.failed before.1) (arms.failed now.1)
  pub calm : (faults → ⊥) → disks.failed now.0 ≡ disks.failed before.0
  pub arm_calm : (faults → ⊥) → arms.failed now.1 ≡ arms.failed before.1
