-- The causes of replies that say that the outside failed.
use Rattle.std.proofs.Common.{◌≡◌, ℕ, ◌<◌, List, refl, sym, ap, ◌∙◌, arith, inl, inr}
use Rattle.mt_outside.specs.declared.disk.DiskError.{DiskError}
use Rattle.mt_outside.specs.declared.disk.DiskError.TheVariants as failure
use Rattle.mt_outside.specs.Causes.{Rose}
use Rattle.mt_model.specs.declared.refusal.Refusal.{Refusal}
use Rattle.mt_model.specs.declared.refusal.Refusal.TheVariants as refusal
use Rattle.mt_model.specs.Refusals.{code, code_of, refusal_line}
use Rattle.mt_model.proofs.Causes.{OfScript}
use Rattle.mt_model.proofs.Refused.{code_of_line}
use Rattle.replies.specs.Causes.{Counts, HasCauses, SaysStopped}
use Rattle.replies.specs.Lines.{IsLineOfStage}

-- the counts, one by one
abbrev pub counted : ℕ → ℕ → ℕ → ℕ → ℕ → Counts
counted opened disk_was disk arm_was arm = record { opened = opened; disk_was = disk_was; disk = disk; arm_was = arm_was; arm = arm }

module _ (opened disk_old disk_new arm_old arm_new : ℕ) (reply : List ℕ) where
  -- a reply, by its number
  pub says : (m : ℕ) → code_of reply ≡ m → (m ≡ 15 → Rose arm_old arm_new) → (m ≡ 16 → (disk_old ≡ opened) × Rose disk_old disk_new) → (m ≡ 17 → SaysStopped opened disk_old reply)
      → HasCauses (counted opened disk_old disk_new arm_old arm_new) reply
  says m is first second third = record {
    failed = λ e. first (sym is ∙ e);
    unsettled = λ e. second (sym is ∙ e);
    stopped = λ e. third (sym is ∙ e);
  }

  -- by its line
  says_line : (why : Refusal) → reply ≡ refusal_line why → (code why ≡ 15 → Rose arm_old arm_new) → (code why ≡ 16 → (disk_old ≡ opened) × Rose disk_old disk_new) → (code why ≡ 17 → SaysStopped opened disk_old reply)
      → HasCauses (counted opened disk_old disk_new arm_old arm_new) reply
  says_line why is first second third = says (code why) (ap code_of is ∙ code_of_line why) first second third

  -- a refusal for what the script says, and a reply that is none
  pub says_script : (why : Refusal) → reply ≡ refusal_line why → OfScript why → HasCauses (counted opened disk_old disk_new arm_old arm_new) reply
  says_script why is (inl few) = says_line why is (λ no. absurd (omega arith)) (λ no. absurd (omega arith)) (λ no. absurd (omega arith))
  says_script why is (inr sign) = says_line why is (λ no. absurd (omega arith)) (λ no. absurd (omega arith)) (λ no. absurd (omega arith))

  pub says_answer : (is : List ℕ) → reply ≡ is → code_of is ≡ 0 → HasCauses (counted opened disk_old disk_new arm_old arm_new) reply
  says_answer is same none = says 0 (ap code_of same ∙ none) (λ no. cc) (λ no. cc) (λ no. cc)

  pub says_damage : (table part file : List ℕ) → reply ≡ refusal_line (refusal.Damaged table part file) → HasCauses (counted opened disk_old disk_new arm_old arm_new) reply
  says_damage table part file is = says_line (refusal.Damaged table part file) is (λ no. cc) (λ no. cc) (λ no. cc)

  -- parts that were not read, or a stage that was not sealed
  by_arm : reply ≡ refusal_line refusal.Failed → Rose arm_old arm_new → HasCauses (counted opened disk_old disk_new arm_old arm_new) reply
  by_arm line rose = says_line refusal.Failed line (λ is. rose) (λ no. cc) (λ no. cc)

  pub says_failed : (error : DiskError) → IsLineOfStage error reply → (error ≡ failure.Fault → Rose arm_old arm_new) → HasCauses (counted opened disk_old disk_new arm_old arm_new) reply
  says_failed failure.NoMemory line rose = absurd line
  says_failed failure.Fault line rose = by_arm line (rose refl)

  -- a commit that failed, over a store that was not stopped
  pub says_unsettled : (accepted : ℕ) → reply ≡ refusal_line (refusal.Unsettled accepted) → (disk_old ≡ opened) × Rose disk_old disk_new → HasCauses (counted opened disk_old disk_new arm_old arm_new) reply
  says_unsettled accepted line rose = says_line (refusal.Unsettled accepted) line (λ no. cc) (λ is. rose) (λ no. cc)

  -- a store that was stopped for writing
  pub says_stopped : (accepted : ℕ) → reply ≡ refusal_line (refusal.Stopped opened disk_old accepted) → opened < disk_old → HasCauses (counted opened disk_old disk_new arm_old arm_new) reply
  says_stopped accepted line risen =
      says_line (refusal.Stopped opened disk_old accepted) line (λ no. cc) (λ no. cc) (λ is. record { accepted = accepted; risen = risen; line = line })
