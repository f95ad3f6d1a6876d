-- What accounts for replies, and lines that are formed.
use Rattle.std.proofs.Common.{◌≡◌, ℕ, ◌≤◌, true, false, List, Result, Ok, Err, IfOk, IfErr, refl, sym, ◌∙◌, arith, subst}
use Rattle.std.proofs.lemmas.Bool.{false≢true}
use Rattle.mt_base.specs.declared.memory.NoMemory.{NoMemory}
use Rattle.mt_outside.specs.declared.disk.Arm.{Ghosts as ArmGhosts}
use Rattle.mt_outside.specs.Leaves.{LeavesArm}
use Rattle.replies.specs.mt_model.Refusals.{is_damage, refusal_line}
use Rattle.replies.specs.Causes.{Counts, HasCauses}
use Rattle.replies.specs.mt_model.declared.refusal.Refusal.{Refusal}
use Rattle.session.specs.Lapses.{Accounts, NoneFailedIn, still}

-- ---- what accounts for a reply

module _ (c : Counts) (Damage : List ℕ → Type 0) where
  -- a line that was formed, where this is said of it
  pub accounts_line : (line : Result (List ℕ) NoMemory) (P : List ℕ → Type 0) → IfOk line P → ((reply : List ℕ) → P reply → HasCauses c reply)
      → ((reply : List ℕ) → P reply → is_damage reply ≡ true → Damage reply) → IfErr line (λ _. NoneFailedIn c) → c.arm_was ≤ c.arm → Accounts c Damage line
  accounts_line (Ok reply) P is causes damage calm later = record { causes = causes reply is; damaged = damage reply is; memory = tt; later = later }
  accounts_line (Err e) P is causes damage calm later = record { causes = tt; damaged = tt; memory = calm; later = later }

-- what holds in any case holds of an error
pub in_any_case : {T E P : Type 0} (line : Result T E) → P → IfErr line (λ _. P)
in_any_case (Ok x) p = tt
in_any_case (Err e) p = p

-- such a line tells of no damage
pub never_by : (reply : List ℕ) → is_damage reply ≡ false → is_damage reply ≡ true → ⊥
never_by reply none is = false≢true (sym none ∙ is)

-- a call that failed nowhere and took no turn has a line in answer
module _ (Damage : List ℕ → Type 0) (opened disk arm : ℕ) where
  pub accounts_still : (line : Result (List ℕ) NoMemory) (P : List ℕ → Type 0) → IfOk line P → ((reply : List ℕ) → P reply → HasCauses (still opened disk arm arm) reply) → ((reply : List ℕ) → P reply → is_damage reply ≡ false)
      → Accounts (still opened disk arm arm) Damage line
  accounts_still line P is causes none =
      accounts_line (still opened disk arm arm) Damage line P is causes (λ reply p bad. absurd (never_by reply (none reply p) bad)) (in_any_case line (refl, refl)) (omega arith)

-- where it tells of damage, that says more
pub accounts_where : (c : Counts) (Damage More : List ℕ → Type 0) → ((reply : List ℕ) → Damage reply → More reply) → (result : Result (List ℕ) NoMemory) → Accounts c Damage result → Accounts c More result
accounts_where c Damage More says (Ok reply) has = record { causes = has.causes; damaged = λ bad. says reply (has.damaged bad); memory = has.memory; later = has.later }
accounts_where c Damage More says (Err e) has = record { causes = tt; damaged = tt; memory = has.memory; later = has.later }

-- ---- an arm

-- no call of it failed
pub arm_stays : {A S F : Type 0} (arms : ArmGhosts A S F) (before now : A) → arms.tells now ≡ arms.tells before → arms.failed now ≡ arms.failed before → LeavesArm arms before now ⊥
arm_stays arms before now tells same = record { tells = tells; later = omega (arith, same); fault = λ no. absurd no; calm = λ _. same }

-- nor of the next
pub arm_stays_on : {A S F : Type 0} (arms : ArmGhosts A S F) (before then now : A) → LeavesArm arms before then ⊥ → arms.tells now ≡ arms.tells then → arms.failed now ≡ arms.failed then → LeavesArm arms before now ⊥
arm_stays_on arms before then now first tells same = arm_stays arms before now (tells ∙ first.tells) (same ∙ first.calm (λ no. no))

-- ---- a refusal

-- the line of a refusal is the line of one that equals it
pub refused_as : (why same : Refusal) (line : Result (List ℕ) NoMemory) → why ≡ same → IfOk line (λ text. text ≡ refusal_line why) → IfOk line (λ text. text ≡ refusal_line same)
refused_as why same line is refused = subst (λ (w : Refusal). IfOk line (λ text. text ≡ refusal_line w)) is refused
