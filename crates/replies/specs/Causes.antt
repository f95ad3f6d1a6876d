-- What the outside did in a call whose reply says that it failed (docs/replies.md, "Faults").
use Rattle.std.specs.Prelude.{◌≡◌, ◌<◌, ℕ, List}
use Rattle.mt_outside.specs.Causes.{Rose}
use Rattle.mt_model.specs.declared.refusal.Refusal.TheVariants as refusal
use Rattle.mt_model.specs.Refusals.{code_of, refusal_line}

-- the counts of faults before a call and after it, the disk's and the arm's, and the disk's at opening (docs/architecture.md, "Counts of faults")
pub record Counts : Type 0 where
  pub opened : ℕ
  pub disk_was : ℕ
  pub disk : ℕ
  pub arm_was : ℕ
  pub arm : ℕ

-- the disk's count stood above the one at opening, and the reply has both
pub record SaysStopped (opened disk : ℕ) (reply : List ℕ) : Type 0 where
  pub accepted : ℕ
  pub risen : opened < disk
  pub line : reply ≡ refusal_line (refusal.Stopped opened disk accepted)

-- The reply of a call is E15 only where the arm's count rose in it; E16 only where the disk's count was the one at opening as the call began, and rose
-- in it; and E17 only where the disk's count stood above the one at opening as the call began.
pub record HasCauses (c : Counts) (reply : List ℕ) : Type 0 where
  pub failed : code_of reply ≡ 15 → Rose c.arm_was c.arm
  pub unsettled : code_of reply ≡ 16 → (c.disk_was ≡ c.opened) × Rose c.disk_was c.disk
  pub stopped : code_of reply ≡ 17 → SaysStopped c.opened c.disk_was reply
