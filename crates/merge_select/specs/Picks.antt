-- Which pair of neighbours a merge takes (docs/engines.md, "Which parts are merged").
use Rattle.std.specs.Prelude.{◌≡◌, ℕ, ◌+◌, ◌*◌, ◌<◌, ◌≤◌, min, max, false, List, slice_get, Some}
use Rattle.mt_base.specs.declared.partition.Partition.{Partition}
use Rattle.mt_base.specs.declared.policy.Policy.{Policy}
use Rattle.mt_base.specs.declared.policy.Policy.TheVariants.{Near, Head, Tail}
use Rattle.mt_base.specs.Limits.{level_limit}
use Rattle.mutation_queue.specs.declared.mutations.Mutations.{Mutations}
use Rattle.mt_values.specs.declared.mutation.Mutation.{Mutation}
use Rattle.mutation_queue.specs.part_set.part_name.Pending.{MayMerge}
use Rattle.mutation_queue.specs.Queue.{mutations_of}
use Rattle.mutation_queue.specs.Scopes.{ComesBefore, InScope}
use Rattle.mutation_queue.specs.part_set.declared.kept.Kept.{Kept}
use Rattle.mutation_queue.specs.part_set.declared.set.PartSet.{PartSet}
use Rattle.mutation_queue.specs.part_set.Parts.{kept_in}
use Rattle.mutation_queue.specs.part_set.Sets.{parts_of}
use Rattle.merge_select.specs.declared.found.Pick.{Pick}
use Rattle.mutation_queue.specs.declared.scope.Scope.{Scope}

-- a pair is free where no mutation parts it, neither part bears a mark, and the merged part's level is one that a part may have
pub record IsFreePair {P : Type 0} (mutations : List Mutation) (a b : Kept P) : Type 0 where
  pub may_merge : MayMerge mutations a.name b.name
  pub first : a.busy ≡ false
  pub second : b.busy ≡ false
  pub level : max a.name.level b.name.level < level_limit

-- the policy takes parts of these numbers of rows: by `Near` the greater is at most twice the lesser and 1000 more
abbrev pub Suits : Policy → ℕ → ℕ → Type 0
Suits Near m n = max m n ≤ 2 * min m n + 1000
Suits Head m n = Unit {0}
Suits Tail m n = Unit {0}

-- the policy may take the part at a place of its partition and the next one, by how many rows each has
pub record MayTake {P : Type 0} (count : P → ℕ) (mutations : List Mutation) (policy : Policy) (parts : List (Kept P)) (place : ℕ) : Type 0 where
  pub first : Kept P
  pub second : Kept P
  pub first_is : slice_get parts place ≡ Some first
  pub second_is : slice_get parts (place + 1) ≡ Some second
  pub free : IsFreePair mutations first second
  pub suits : Suits policy (count first.part) (count second.part)

-- of two places the policy prefers the first one: `Tail` the later, each other policy the earlier
abbrev pub Prefers : Policy → ℕ → ℕ → Type 0
Prefers Near k place = k < place
Prefers Head k place = k < place
Prefers Tail k place = place < k

-- the policy takes the pair at a place: it may, and at no place that it prefers
pub record Chooses {P : Type 0} (count : P → ℕ) (mutations : List Mutation) (policy : Policy) (parts : List (Kept P)) (place : ℕ) : Type 0 where
  pub takes : MayTake count mutations policy parts place
  pub none : (k : ℕ) → Prefers policy k place → MayTake count mutations policy parts k → ⊥

-- what is chosen from, and how: the parts of all tables and their numbers of rows, the mutations, and the policy
pub record Choice (P : Type 0) : Type 0 where
  pub set : PartSet P
  pub queue : Mutations
  pub count : P → ℕ
  pub policy : Policy

-- the policy may take no pair of the partition of a table
abbrev pub HasNone : {P : Type 0} → Choice P → List ℕ → Partition → Type 0
HasNone c t p = (k : ℕ) → MayTake c.count (mutations_of c.queue t) c.policy (kept_in p (parts_of c.set t)) k → ⊥

-- no pair in the scope may be taken
abbrev pub NoneIn : {P : Type 0} → Choice P → Scope → Type 0
NoneIn c scope = (t : List ℕ) (p : Partition) → InScope scope t p → HasNone c t p

-- the pair that is taken: of its partition the one that the policy chooses, and no partition before it in the scope has any
pub record IsPick {P : Type 0} (c : Choice P) (scope : Scope) (pick : Pick) : Type 0 where
  pub in_scope : InScope scope pick.table.now pick.partition
  pub count : pick.run.count ≡ 2
  pub chooses : Chooses c.count (mutations_of c.queue pick.table.now) c.policy (kept_in pick.partition (parts_of c.set pick.table.now)) pick.run.first
  pub first : (t : List ℕ) (p : Partition) → InScope scope t p → ComesBefore t p pick.table.now pick.partition → HasNone c t p
