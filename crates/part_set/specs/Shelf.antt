-- What is kept for one table, partition by partition (docs/definitions.md, "The set of parts").
use Rattle.std.specs.Prelude.{◌≡◌, ℕ, false, List, flat_map, map, Option, Some, None}
use Rattle.std.specs.BTreeMap.{is_at}
use Rattle.std.specs.List.{All}
use Rattle.std.specs.List.Sorted.{IsStrictlySortedBy}
use Rattle.std.specs.Map.{keys_of, lookup}
use Rattle.std.specs.Ordering.{nat_cmp}
use Rattle.mt_base.specs.declared.partition.Partition.{Partition}
use Rattle.part_set.specs.declared.kept.Kept.{Kept}
use Rattle.part_set.specs.Parts.{IsInBlockOrder, partition_rank}
use Rattle.part_set.specs.Runs.{with_mark}

-- the parts of one partition, and how many more fit without memory
pub record Shelf (P : Type 0) : Type 0 where
  pub parts : List (Kept P)
  pub room : ℕ

-- the parts of a table that has these shelves, each with its partition's place among all: those of one partition after the other
abbrev pub all_parts : {P : Type 0} → List (ℕ × Shelf P) → List (Kept P)
all_parts {P} shelves = flat_map (λ (s : ℕ × Shelf P). s.1.parts) shelves

-- the shelf of a partition; none where it has none
abbrev pub shelf_at : {P : Type 0} → Partition → List (ℕ × Shelf P) → Option (Shelf P)
shelf_at partition shelves = lookup (is_at (nat_cmp (partition_rank partition))) shelves

abbrev pub room_of : {P : Type 0} → Option (Shelf P) → ℕ
room_of None = 0
room_of (Some shelf) = shelf.room

-- the parts of a shelf are in block order, and all of the partition at whose place it stands
pub record IsFiled {P : Type 0} (s : ℕ × Shelf P) : Type 0 where
  pub mine : All (λ kept. partition_rank kept.name.partition ≡ s.0) s.1.parts
  pub ordered : IsInBlockOrder s.1.parts

-- the shelves stand by the places of their partitions, one for each
pub record AreFiled {P : Type 0} (shelves : List (ℕ × Shelf P)) : Type 0 where
  pub rise : IsStrictlySortedBy nat_cmp (keys_of shelves)
  pub filed : All IsFiled shelves

-- the shelf with the same parts, none of which bears a mark
abbrev pub freed_shelf : {P : Type 0} → Shelf P → Shelf P
freed_shelf shelf = record { parts = map (with_mark false) shelf.parts; room = shelf.room }

-- and so all shelves of a table
abbrev pub freed_shelves : {P : Type 0} → List (ℕ × Shelf P) → List (ℕ × Shelf P)
freed_shelves {P} shelves = map (λ (s : ℕ × Shelf P). (s.0, freed_shelf s.1)) shelves
