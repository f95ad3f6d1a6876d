-- Why a command was not committed, and what is replied.
use Rattle.std.proofs.Common.{◌≡◌, ℕ, ◌<◌, Bool, true, false, cond, List, length, refl, ap, arith, Option, Some, None, is_some, nat_le, nat_lt}
use Rattle.std.proofs.lemmas.Bool.Decides.{nat_tests}
use Rattle.mt_base.specs.declared.partition.Partition.{Partition}
use Rattle.replies.specs.mt_model.Refusals.{is_damage}
use Rattle.merge_workers.specs.shared_store.part_set.Parts.{kept_in}
use Rattle.merge_workers.specs.shared_store.part_set.Sets.{parts_of}
use Rattle.merge_workers.specs.shared_store.durable_commit.declared.causes.Limit.TheVariants as limit
use Rattle.merge_workers.specs.shared_store.durable_commit.declared.causes.Refused.{Refused}
use Rattle.merge_workers.specs.shared_store.durable_commit.declared.causes.Refused.TheVariants as refused
use Rattle.merge_workers.specs.shared_store.durable_commit.Commits.{stopped_by}
use Rattle.merge_workers.specs.shared_store.root_store.declared.store.CoreStore.{CoreStore}
use Rattle.merge_workers.specs.shared_store.root_store.declared.store.Table.{Table}
use Rattle.merge_workers.specs.shared_store.root_commits.Commits.{IsCause, refuses_create, refuses_part}
use Rattle.merge_workers.specs.shared_store.root_store.Stores.{table_at}
use Rattle.session.specs.Stops.{IsLineOf}

-- what the store showed nothing against has room
pub nothing_shown : {F : Type 0} (store : CoreStore F) (table : List ℕ) (partition : Partition) (drawn before : ℕ) → IsCause (refuses_part store table partition drawn before) None
    → (length (kept_in partition (parts_of store.set table)) < 3000) × (drawn < 4294967295)
nothing_shown store table partition drawn before is = by (nat_le 3000 (length (kept_in partition (parts_of store.set table)))) refl (nat_le 4294967295 drawn) refl (nat_lt store.opened before) is
  where
    by : (full : Bool) → nat_le 3000 (length (kept_in partition (parts_of store.set table))) ≡ full → (spent : Bool) → nat_le 4294967295 drawn ≡ spent → (stopped : Bool)
        → IsCause (cond full (Some (refused.Limit limit.Parts)) (cond spent (Some (refused.Limit limit.Numbers)) (cond stopped (Some (refused.Stopped store.opened before)) None))) None
        → (length (kept_in partition (parts_of store.set table)) < 3000) × (drawn < 4294967295)
    by true many spent last stopped h = cc
    by false many true last stopped h = cc
    by false many false last stopped h = (grind (arith, nat_tests, many), grind (arith, nat_tests, last))

pub nothing_shown_to_create : {F : Type 0} (store : CoreStore F) (table : List ℕ) (before : ℕ) → IsCause (refuses_create store table before) None
    → (table_at store table ≡ None) × (length store.tables.entries < 64)
nothing_shown_to_create store table before is = by (table_at store table) refl (nat_le 64 (length store.tables.entries)) refl (nat_lt store.opened before) is
  where
    by : (o : Option Table) → table_at store table ≡ o → (full : Bool) → nat_le 64 (length store.tables.entries) ≡ full → (stopped : Bool)
        → IsCause (cond (is_some o) (Some refused.Exists) (cond full (Some (refused.Limit limit.Tables)) (cond stopped (Some (refused.Stopped store.opened before)) None))) None
        → (table_at store table ≡ None) × (length store.tables.entries < 64)
    by (Some t) there full many stopped h = cc
    by None there true many stopped h = cc
    by None there false many stopped h = (there, grind (arith, nat_tests, many))

-- the store was stopped, where it shows nothing else
module _ {F : Type 0} (store : CoreStore F) (table : List ℕ) (failed : ℕ) (cause : Refused) (first count : ℕ) (is : cause ≡ refused.Stopped first count) where
  pub create_stop : IsCause (refuses_create store table failed) (Some cause) → IsCause (stopped_by store.opened failed) (Some cause)
  create_stop shown = by (is_some (table_at store table)) (nat_le 64 (length store.tables.entries)) shown
    where
      by : (there full : Bool) → IsCause (cond there (Some refused.Exists) (cond full (Some (refused.Limit limit.Tables)) (stopped_by store.opened failed))) (Some cause) → IsCause (stopped_by store.opened failed) (Some cause)
      by true full said = cc
      by false true said = cc
      by false false said = said

  pub part_stop : (partition : Partition) (drawn : ℕ) → IsCause (refuses_part store table partition drawn failed) (Some cause) → IsCause (stopped_by store.opened failed) (Some cause)
  part_stop partition drawn shown = by (nat_le 3000 (length (kept_in partition (parts_of store.set table)))) (nat_le 4294967295 drawn) shown
    where
      by : (full spent : Bool) → IsCause (cond full (Some (refused.Limit limit.Parts)) (cond spent (Some (refused.Limit limit.Numbers)) (stopped_by store.opened failed))) (Some cause) → IsCause (stopped_by store.opened failed) (Some cause)
      by true spent said = cc
      by false true said = cc
      by false false said = said

-- a command that was refused or whose commit failed tells of no damage
pub commit_line : (accepted : ℕ) (table : List ℕ) (why : Refused) (reply : List ℕ) → IsLineOf accepted table why reply → is_damage reply ≡ false
commit_line accepted table refused.NoMemory reply line = absurd line
commit_line accepted table refused.Disk reply line = ap is_damage line
commit_line accepted table (refused.Stopped opened now) reply line = ap is_damage line
commit_line accepted table refused.Exists reply line = ap is_damage line
commit_line accepted table (refused.Limit limit.Tables) reply line = ap is_damage line
commit_line accepted table (refused.Limit limit.Parts) reply line = ap is_damage line
commit_line accepted table (refused.Limit limit.Numbers) reply line = ap is_damage line
commit_line accepted table (refused.Limit limit.Levels) reply line = ap is_damage line
