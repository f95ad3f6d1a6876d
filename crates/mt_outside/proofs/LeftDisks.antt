-- Calls one after the other with one disk and an arm of it.
use Rattle.std.proofs.Common.{◌≡◌, ◌∙◌, ◌⊎◌, Err, Ok, Result, arith, inl, inr, le_refl, refl, subst}
use Rattle.mt_outside.specs.declared.disk.Arm.{Ghosts as ArmGhosts}
use Rattle.mt_outside.specs.declared.disk.Disk.{Ghosts as DiskGhosts}
use Rattle.mt_outside.specs.declared.disk.DiskError.{DiskError}
use Rattle.mt_outside.specs.declared.disk.DiskError.TheVariants as error
use Rattle.mt_outside.specs.Causes.{Rose}
use Rattle.mt_outside.specs.DiskCauses.{HasDiskCause}
use Rattle.mt_outside.specs.Leaves.{LeavesArm, LeavesDisk}

module _ {D A S F : Type 0} {disks : DiskGhosts D A S F} {arms : ArmGhosts A S F} where
  -- no call is made
  pub disk_same : (disk : D) (arm : A) → LeavesDisk disks arms (disk, arm) (disk, arm) ⊥
  disk_same disk arm = record {
    told = refl;
    started = refl;
    tells = refl;
    later = le_refl (disks.failed disk);
    arm_later = le_refl (arms.failed arm);
    fault = λ f. absurd f;
    calm = λ _. refl;
    arm_calm = λ _. refl;
  }

  -- a call after one that answered no fault: both leave disk and arm as the second alone would
  pub disk_then : {one two three : D × A} {first second : Type 0} → LeavesDisk disks arms one two first → (first → ⊥) → LeavesDisk disks arms two three second → LeavesDisk disks arms one three second
  disk_then {one = one} {three = three} left none more =
      let same = left.calm none in
      let arm_same = left.arm_calm none in
      record {
        told = more.told ∙ left.told;
        started = more.started ∙ left.started;
        tells = more.tells ∙ left.tells;
        later = let l = more.later in omega (arith, same, l);
        arm_later = let l = more.arm_later in omega (arith, arm_same, l);
        fault = λ f. elim (more.fault f) as (λ h. Rose (disks.failed one.0) (disks.failed three.0) ⊎ Rose (arms.failed one.1) (arms.failed three.1)) [
          | inl rose ↦ inl (subst (λ n. Rose n (disks.failed three.0)) same rose)
          | inr rose ↦ inr (subst (λ n. Rose n (arms.failed three.1)) arm_same rose)
        ];
        calm = λ calm. more.calm calm ∙ same;
        arm_calm = λ calm. more.arm_calm calm ∙ arm_same;
      }

  -- another answer that is a fault where the first is
  pub disk_as : {one two : D × A} {first second : Type 0} → LeavesDisk disks arms one two first → (second → first) → (first → second) → LeavesDisk disks arms one two second
  disk_as left to from = record {
    told = left.told;
    started = left.started;
    tells = left.tells;
    later = left.later;
    arm_later = left.arm_later;
    fault = λ f. left.fault (to f);
    calm = λ none. left.calm (λ f. none (from f));
    arm_calm = λ none. left.arm_calm (λ f. none (from f));
  }

  -- a call of the arm alone
  pub disk_stays : (disk : D) {one two : A} {faults : Type 0} → LeavesArm arms one two faults → LeavesDisk disks arms (disk, one) (disk, two) faults
  disk_stays disk left = record {
    told = refl;
    started = refl;
    tells = left.tells;
    later = le_refl (disks.failed disk);
    arm_later = left.later;
    fault = λ f. inr (left.fault f);
    calm = λ _. refl;
    arm_calm = left.calm;
  }

  -- a call of the disk alone
  pub arm_stays : {T : Type 0} (one two : D) (arm : A) (result : Result T DiskError) → disks.told two ≡ disks.told one → disks.started two ≡ disks.started one → HasDiskCause (disks.failed one) (disks.failed two) result
      → LeavesDisk disks arms (one, arm) (two, arm) (result ≡ Err error.Fault)
  arm_stays {T} one two arm result told started cause = record {
    told = told;
    started = started;
    tells = refl;
    later = cause.later;
    arm_later = le_refl (arms.failed arm);
    fault = λ f. inl (cause.failed f);
    calm = calm_count result cause;
    arm_calm = λ _. refl;
  } where
    calm_count : (r : Result T DiskError) → HasDiskCause (disks.failed one) (disks.failed two) r → (r ≡ Err error.Fault → ⊥) → disks.failed two ≡ disks.failed one
    calm_count (Ok x) cause none = cause.ok
    calm_count (Err error.Fault) cause none = absurd (none refl)
    calm_count (Err error.NoMemory) cause none = cause.memory refl
