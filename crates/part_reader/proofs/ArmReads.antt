-- What reads of a file leave of the arm.
use Rattle.std.proofs.Common.{◌≡◌, ◌∙◌, ℕ, Result, Ok, Err, IsErrAnd, IsErrOf, ap, arith, refl, subst}
use Rattle.mt_outside.specs.declared.disk.Arm.{Ghosts}
use Rattle.mt_outside.specs.declared.disk.DiskError.{DiskError}
use Rattle.mt_outside.specs.declared.disk.DiskError.TheVariants as disk
use Rattle.mt_outside.specs.Causes.{Rose}
use Rattle.mt_outside.specs.DiskCauses.{HasDiskCause}
use Rattle.mt_outside.specs.Leaves.{LeavesArm}
use Rattle.mt_outside.proofs.LeftArms.{arm_as}
use Rattle.part_reader.specs.declared.reading.PartFault.{PartFault}
use Rattle.part_reader.specs.declared.reading.PartFault.TheVariants.{Fault, NoMemory}
use Rattle.part_reader.specs.Faults.{FaultOf}

module _ {A S F : Type 0} {arms : Ghosts A S F} where
  -- a call that was answered, after others that were
  pub arm_answered : {one two three : A} → LeavesArm arms one two ⊥ → arms.tells three ≡ arms.tells two → arms.failed three ≡ arms.failed two
      → LeavesArm arms one three ⊥
  arm_answered left tells failed =
      let same = failed ∙ left.calm (λ f. f) in
      record { tells = tells ∙ left.tells; later = omega (arith, same); fault = λ f. absurd f; calm = λ _. same }

  -- a call that was not, after others that were: what it says is handed on
  pub arm_refused : {T : Type 0} {one two three : A} (error : DiskError) (result : Result T PartFault) → IsErrAnd result (FaultOf error)
      → LeavesArm arms one two ⊥ → arms.tells three ≡ arms.tells two → HasDiskCause {T = ℕ} (arms.failed two) (arms.failed three) (Err error)
      → LeavesArm arms one three (IsErrOf result Fault)
  arm_refused error (Ok x) made left tells cause = absurd made
  arm_refused {two = two} {three = three} disk.Fault (Err e) made left tells cause =
      let same = left.calm (λ f. f) in
      let rose : Rose (arms.failed two) (arms.failed three) = cause.failed refl in
      record {
        tells = tells ∙ left.tells;
        later = let l = cause.later in omega (arith, same, l);
        fault = λ _. subst (λ n. Rose n (arms.failed three)) same rose;
        calm = λ none. absurd (none (ap Err made));
      }
  arm_refused disk.NoMemory (Err e) made left tells cause =
      let same = cause.memory refl ∙ left.calm (λ f. f) in
      record { tells = tells ∙ left.tells; later = omega (arith, same); fault = λ f. absurd (other e made f); calm = λ _. same }
    where
      other : {T : Type 0} (e : PartFault) → e ≡ NoMemory → ◌≡◌ {A = Result T PartFault} (Err e) (Err Fault) → ⊥
      other e made f = cc

  -- where an allocation failed no call did
  pub arm_without_room : {T : Type 0} {one two : A} (result : Result T PartFault) → IsErrAnd result (λ e. e ≡ NoMemory)
      → LeavesArm arms one two ⊥ → LeavesArm arms one two (IsErrOf result Fault)
  arm_without_room (Ok x) made left = absurd made
  arm_without_room (Err e) made left = arm_as left (λ f. cc) (λ f. absurd f)
