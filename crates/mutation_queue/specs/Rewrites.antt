-- The part that is rewritten next (docs/engines.md, "Which parts are merged").
use Rattle.std.specs.Prelude.{◌≡◌, ℕ, ◌<◌, List, Option, Some, None, if◌then◌else◌, option_map, slice_get}
use Rattle.mt_base.specs.declared.partition.Partition.{Partition}
use Rattle.mt_values.specs.declared.mutation.Mutation.{Mutation}
use Rattle.part_set.specs.declared.kept.Kept.{Kept}
use Rattle.part_set.specs.declared.set.PartSet.{PartSet}
use Rattle.part_set.specs.Parts.{kept_in, partition_rank}
use Rattle.part_set.specs.Passes.{last_of}
use Rattle.part_set.specs.Sets.{parts_of}
use Rattle.mutation_queue.specs.declared.mutations.Mutations.{Mutations}
use Rattle.mutation_queue.specs.declared.rewriting.Rewrite.{Rewrite}
use Rattle.mutation_queue.specs.declared.scope.Scope.{Scope}
use Rattle.part_set.specs.part_name.Pending.{pending_for}
use Rattle.mutation_queue.specs.Queue.{mutations_of}
use Rattle.mutation_queue.specs.Scopes.{ComesBefore, InScope}

-- up to which mutation a part may be rewritten: the last, and so the greatest, that is pending for it; none where it bears a mark or none is pending
abbrev pub waits_for : {P : Type 0} → List Mutation → Kept P → Option ℕ
waits_for mutations kept = if kept.busy then None else option_map (λ m. m.number) (last_of (pending_for mutations kept.name))

-- the part at a place may be rewritten, up to a mutation
pub record MayRewrite {P : Type 0} (mutations : List Mutation) (parts : List (Kept P)) (place : ℕ) : Type 0 where
  pub kept : Kept P
  pub upto : ℕ
  pub here : slice_get parts place ≡ Some kept
  pub waits : waits_for mutations kept ≡ Some upto

-- no part in the scope may be rewritten
abbrev pub NoneWaits : {P : Type 0} → PartSet P → Mutations → Scope → Type 0
NoneWaits set queue scope =
    (t : List ℕ) (p : Partition) → InScope scope t p → (k : ℕ) → MayRewrite (mutations_of queue t) (kept_in p (parts_of set t)) k → ⊥

-- the first part of a partition that may be rewritten, and up to which mutation
pub record IsRewriteAt {P : Type 0} (mutations : List Mutation) (parts : List (Kept P)) (r : Rewrite) : Type 0 where
  pub may : MayRewrite mutations parts r.first
  pub named : may.kept.name ≡ r.name
  pub upto : may.upto ≡ r.upto
  pub first : (k : ℕ) → k < r.first → MayRewrite mutations parts k → ⊥

-- that of the first partition of a table that has one
pub record IsFirstWaiting {P : Type 0} (mutations : List Mutation) (parts : List (Kept P)) (r : Rewrite) : Type 0 where
  pub here : IsRewriteAt mutations (kept_in r.name.partition parts) r
  pub first : (p : Partition) → partition_rank p < partition_rank r.name.partition → (k : ℕ) → MayRewrite mutations (kept_in p parts) k → ⊥

-- that of the first table and partition in the scope that has one
pub record IsNextRewrite {P : Type 0} (set : PartSet P) (queue : Mutations) (scope : Scope) (r : Rewrite) : Type 0 where
  pub in_scope : InScope scope r.table.now r.name.partition
  pub here : IsRewriteAt (mutations_of queue r.table.now) (kept_in r.name.partition (parts_of set r.table.now)) r
  pub first : (t : List ℕ) (p : Partition) → InScope scope t p → ComesBefore t p r.table.now r.name.partition
      → (k : ℕ) → MayRewrite (mutations_of queue t) (kept_in p (parts_of set t)) k → ⊥
