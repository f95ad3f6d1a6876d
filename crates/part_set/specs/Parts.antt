-- How the parts of one table stand to each other (docs/definitions.md, "Visible parts").
use Rattle.std.specs.Prelude.{◌≡◌, ◌≢◌, ℕ, ◌+◌, ◌≤◌, ◌<◌, Bool, true, false, ◌==◌, ◌&&◌, ◌||◌, nat_lt, nat_le, List, filter, length, map, Option, None, Some, IsTrue}
use Rattle.std.specs.List.{All, AllPairs, Contains as HasItem, insert}
use Rattle.mt_base.specs.declared.partition.Partition.{Partition}
use Rattle.mt_base.specs.declared.partition.Partition.TheVariants.{Whole, Number}
use Rattle.mt_values.specs.Tables.{same_partition}
use Rattle.part_name.specs.declared.part.PartName.{PartName}
use Rattle.part_name.specs.PartNames.{Meet}
use Rattle.part_set.specs.declared.kept.Kept.{Kept}

-- the place of a partition among all: the whole first, then the numbers ascending
abbrev pub partition_rank : Partition → ℕ
partition_rank Whole = 0
partition_rank (Number n) = n + 1

-- block order: by partition, and in one partition by the least block
abbrev pub in_order : PartName → PartName → Bool
in_order a b =
    nat_lt (partition_rank a.partition) (partition_rank b.partition)
    || (partition_rank a.partition == partition_rank b.partition && nat_le a.min_block b.min_block)

-- the first stands before the second, and they do not meet
pub record StandsClear (a b : PartName) : Type 0 where
  pub order : IsTrue (in_order a b)
  pub apart : Meet a b → ⊥

-- a list of parts in block order, of which no two meet
abbrev pub IsInBlockOrder : {P : Type 0} → List (Kept P) → Type 0
IsInBlockOrder parts = AllPairs (λ a b. StandsClear a.name b.name) parts

-- the same number of a mutation, or none
abbrev pub same_mutation : Option ℕ → Option ℕ → Bool
same_mutation None None = true
same_mutation (Some m) (Some n) = m == n
same_mutation a b = false

-- two names say the same
abbrev pub same_part : PartName → PartName → Bool
same_part a b =
    same_partition a.partition b.partition
    && (a.min_block == b.min_block && (a.max_block == b.max_block && (a.level == b.level && same_mutation a.mutation b.mutation)))

-- the parts that are of a partition
abbrev pub kept_in : {P : Type 0} → Partition → List (Kept P) → List (Kept P)
kept_in {P} partition parts = filter (λ (k : Kept P). same_partition k.name.partition partition) parts

-- one of the parts has this name
abbrev pub HasName : {P : Type 0} → List (Kept P) → PartName → Type 0
HasName {P} parts name = HasItem (map (λ (kept : Kept P). kept.name) parts) name

-- none of the parts meets this one
abbrev pub NoneMeets : {P : Type 0} → List (Kept P) → PartName → Type 0
NoneMeets parts name = All (λ kept. Meet kept.name name → ⊥) parts

-- one part more, somewhere in the list
pub record IsAdded {P : Type 0} (before : List (Kept P)) (kept : Kept P) (after : List (Kept P)) : Type 0 where
  pub place : ℕ
  pub within : place ≤ length before
  pub is : after ≡ insert before place kept

-- in the partition of the first, the blocks of the middle part stand above those of the first and below those of the last
pub record LiesBetween (first middle last : PartName) : Type 0 where
  pub partition : middle.partition ≡ first.partition
  pub above : first.max_block < middle.min_block
  pub below : middle.max_block < last.min_block

-- two different parts of one partition, with none of these between their blocks
pub record AreNeighbours {P : Type 0} (parts : List (Kept P)) (a b : PartName) : Type 0 where
  pub different : a ≢ b
  pub partition : a.partition ≡ b.partition
  pub none : All (λ kept. LiesBetween a kept.name b → ⊥) parts
  pub none_back : All (λ kept. LiesBetween b kept.name a → ⊥) parts
