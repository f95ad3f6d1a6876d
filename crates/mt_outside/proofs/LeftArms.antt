-- Calls one after the other with one arm.
use Rattle.std.proofs.Common.{◌∙◌, arith, le_refl, refl, subst}
use Rattle.mt_outside.specs.declared.disk.Arm.{Ghosts}
use Rattle.mt_outside.specs.Causes.{Rose}
use Rattle.mt_outside.specs.Leaves.{LeavesArm}

module _ {A S F : Type 0} {arms : Ghosts A S F} where
  -- no call is made
  pub arm_same : (arm : A) → LeavesArm arms arm arm ⊥
  arm_same arm = record {
    tells = refl;
    later = le_refl (arms.failed arm);
    fault = λ f. absurd f;
    calm = λ _. refl;
  }

  -- a call after one that answered no fault: both leave the arm as the second alone would
  pub arm_then : {one two three : A} {first second : Type 0} → LeavesArm arms one two first → (first → ⊥) → LeavesArm arms two three second → LeavesArm arms one three second
  arm_then {three = three} left none more =
      let same = left.calm none in
      record {
        tells = more.tells ∙ left.tells;
        later = let l = more.later in omega (arith, same, l);
        fault = λ f. subst (λ n. Rose n (arms.failed three)) same (more.fault f);
        calm = λ calm. more.calm calm ∙ same;
      }

  -- two calls that answered no fault
  pub arm_calm : {one two three : A} {first second : Type 0} → LeavesArm arms one two first → (first → ⊥) → LeavesArm arms two three second → (second → ⊥) → LeavesArm arms one three ⊥
  arm_calm left none more calm =
      let same = more.calm calm ∙ left.calm none in
      record {
        tells = more.tells ∙ left.tells;
        later = omega (arith, same);
        fault = λ f. absurd f;
        calm = λ _. same;
      }

  -- another answer that is a fault where the first is
  pub arm_as : {one two : A} {first second : Type 0} → LeavesArm arms one two first → (second → first) → (first → second) → LeavesArm arms one two second
  arm_as left to from = record {
    tells = left.tells;
    later = left.later;
    fault = λ f. left.fault (to f);
    calm = λ none. left.calm (λ f. none (from f));
  }
