-- A command is given to the disk only while its count of faults is the one at opening.
use Rattle.std.proofs.Common.{◌≡◌, ℕ, ◌≤◌, List, Option, Some, None, Bool, true, false, cond, is_some, nat_le, nat_lt, length, refl, subst}
use Rattle.mt_base.specs.declared.partition.Partition.{Partition}
use Rattle.merge_workers.specs.shared_store.part_set.Parts.{kept_in}
use Rattle.merge_workers.specs.shared_store.part_set.Sets.{parts_of}
use Rattle.merge_workers.specs.shared_store.durable_commit.declared.causes.Limit.TheVariants as limit
use Rattle.merge_workers.specs.shared_store.durable_commit.declared.causes.Refused.{Refused}
use Rattle.merge_workers.specs.shared_store.durable_commit.declared.causes.Refused.TheVariants as refused
use Rattle.merge_workers.specs.shared_store.durable_commit.Commits.{IsOutside}
use Rattle.merge_workers.specs.shared_store.root_store.declared.store.CoreStore.{CoreStore}
use Rattle.merge_workers.specs.shared_store.root_store.Stores.{table_at}
use Rattle.merge_workers.specs.shared_store.root_commits.Commits.{IsCause, refuses_create, refuses_part}
use Rattle.merge_workers.proofs.RootCommitsLeaving.{shown_calm, shown_part_calm}

shown_none : (shown : Option Refused) → IsCause shown None → shown ≡ None
shown_none None is = refl
shown_none (Some why) is = cc

outside_none : (a b c : Bool) (x y z cause : Refused) → (IsOutside (Some x) → ⊥) → (IsOutside (Some y) → ⊥) → (IsOutside (Some z) → ⊥)
    → IsCause (cond a (Some x) (cond b (Some y) (cond c (Some z) None))) (Some cause) → IsOutside (Some cause) → cond a (Some x) (cond b (Some y) (cond c (Some z) None)) ≡ None
outside_none true b c x y z cause first second third is outside = absurd (first (subst IsOutside is outside))
outside_none false true c x y z cause first second third is outside = absurd (second (subst IsOutside is outside))
outside_none false false true x y z cause first second third is outside = absurd (third (subst IsOutside is outside))
outside_none false false false x y z cause first second third is outside = refl

module _ {F : Type 0} (store : CoreStore F) (table : List ℕ) (now : ℕ) (low : store.opened ≤ now) where
  pub still_created : IsCause (refuses_create store table now) None → now ≡ store.opened
  still_created is = shown_calm store table now (shown_none (refuses_create store table now) is) low

  pub still_refused : (cause : Refused) → IsCause (refuses_create store table now) (Some cause) → IsOutside (Some cause) → now ≡ store.opened
  still_refused cause is outside =
      shown_calm store table now
      (outside_none (is_some (table_at store table)) (nat_le 64 (length store.tables.entries)) (nat_lt store.opened now) refused.Exists (refused.Limit limit.Tables) (refused.Stopped store.opened now) cause
      (λ no. no) (λ no. no) (λ no. no) is outside) low

  pub still_added : (partition : Partition) (drawn : ℕ) → IsCause (refuses_part store table partition drawn now) None → now ≡ store.opened
  still_added partition drawn is = shown_part_calm store table now partition drawn (shown_none (refuses_part store table partition drawn now) is) low

  pub still_part_refused : (partition : Partition) (drawn : ℕ) (cause : Refused) → IsCause (refuses_part store table partition drawn now) (Some cause) → IsOutside (Some cause) → now ≡ store.opened
  still_part_refused partition drawn cause is outside =
      shown_part_calm store table now partition drawn
      (outside_none (nat_le 3000 (length (kept_in partition (parts_of store.set table)))) (nat_le 4294967295 drawn) (nat_lt store.opened now) (refused.Limit limit.Parts) (refused.Limit limit.Numbers) (refused.Stopped store.opened now) cause
      (λ no. no) (λ no. no) (λ no. no) is outside) low
