-- The level of a merge's name, and what is shown of a store that was stopped.
use Rattle.std.proofs.Common.{◌≡◌, ℕ, ◌≤◌, Bool, true, false, cond, Some, None, nat_lt, refl, arith}
use Rattle.std.proofs.lemmas.Bool.Decides.{nat_tests}
use Rattle.mt_base.specs.Limits.{level_limit}
use Rattle.root_store.specs.part_name.declared.part.PartName.{PartName}
use Rattle.root_store.specs.part_name.Merged.{raised}
use Rattle.root_store.specs.durable_commit.declared.causes.Refused.{Refused}
use Rattle.root_store.specs.durable_commit.declared.causes.Refused.TheVariants as refused
use Rattle.root_store.specs.durable_commit.Commits.{stopped_by}
use Rattle.root_commits.specs.Merges.{within_levels}

-- ---- levels

-- a name one level higher is within the levels where it is below the greatest
raised_by : (b c : Bool) (name : PartName) → (b ≡ true → c ≡ false) → (b ≡ false → c ≡ true) → cond b (Some (raised name)) None ≡ cond c None (Some (raised name))
raised_by true true name up down = let off = up refl in cc
raised_by true false name up down = refl
raised_by false true name up down = refl
raised_by false false name up down = let on = down refl in cc

pub raised_within : (name : PartName) → cond (nat_lt name.level level_limit) (Some (raised name)) None ≡ within_levels (Some (raised name))
raised_within name =
    raised_by (nat_lt name.level level_limit) (nat_lt level_limit (raised name).level) name
    (λ is. grind (arith, nat_tests, is)) (λ is. grind (arith, nat_tests, is))

-- ---- causes

pub stopped_none : (opened now : ℕ) → stopped_by opened now ≡ None → opened ≤ now → now ≡ opened
stopped_none opened now none low = by (nat_lt opened now) refl none
  where
    by : (b : Bool) → nat_lt opened now ≡ b → cond b (Some (refused.Stopped opened now)) None ≡ None → now ≡ opened
    by true test is = cc
    by false test is = grind (arith, nat_tests, test, low)

-- no fault of the disk is shown
pub stopped_other : (opened now : ℕ) (cause : Refused) → stopped_by opened now ≡ Some cause → cause ≡ refused.Disk → ⊥
stopped_other opened now cause is same = by (nat_lt opened now) is
  where
    by : (b : Bool) → cond b (Some (refused.Stopped opened now)) None ≡ Some cause → ⊥
    by true found = cc
    by false found = cc
