-- From before a call to after it: what accounts for a reply (docs/definitions-of-runs.md, "Statements taken").
use Rattle.std.specs.Prelude.{◌≡◌, ◌≤◌, ℕ, true, List, Result, IfOk, OnErr}
use Rattle.mt_base.specs.declared.memory.NoMemory.{NoMemory}
use Rattle.replies.specs.mt_model.Refusals.{is_damage}
use Rattle.replies.specs.Causes.{Counts, HasCauses}

-- the counts of faults before and after a call that takes no turn (docs/architecture.md, "Counts of faults")
abbrev pub still : ℕ → ℕ → ℕ → ℕ → Counts
still opened disk arm_was arm = record { opened = opened; disk_was = disk; disk = disk; arm_was = arm_was; arm = arm }

-- no call of the disk or the arm failed (docs/architecture.md, "Counts of faults")
abbrev pub NoneFailedIn : Counts → Type 0
NoneFailedIn c = (c.disk ≡ c.disk_was) × (c.arm ≡ c.arm_was)

-- What accounts for a reply, or for none: the outside did what it says, and it tells of damage only so; without a reply no call failed. The
-- arm's count is not below.
pub record Accounts (c : Counts) (Damage : List ℕ → Type 0) (result : Result (List ℕ) NoMemory) : Type 0 where
  pub causes : IfOk result (HasCauses c)
  pub damaged : IfOk result (λ reply. is_damage reply ≡ true → Damage reply)
  pub memory : OnErr result (NoneFailedIn c)
  pub later : c.arm_was ≤ c.arm

-- no reply tells of damage
abbrev pub Never : List ℕ → Type 0
Never reply = ⊥
