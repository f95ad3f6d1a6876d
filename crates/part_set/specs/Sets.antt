-- What a set keeps for each table (docs/definitions.md, "The set of parts").
use Rattle.std.specs.Prelude.{ℕ, ◌<◌, List, [], Option, Some, None}
use Rattle.std.specs.BTreeMap.{BTreeMap, UpdatesBy, get}
use Rattle.std.specs.Cmp.Lexicographic.{slice_cmp}
use Rattle.std.specs.Ordering.{nat_cmp}
use Rattle.mt_base.specs.declared.partition.Partition.{Partition}
use Rattle.part_set.specs.declared.kept.Kept.{Kept}
use Rattle.part_set.specs.declared.set.PartSet.{PartSet}
use Rattle.part_set.specs.Shelf.{Shelf, all_parts, room_of, shelf_at}

-- none where the table has no shelves
abbrev pub parts_on : {P : Type 0} → Option (List (ℕ × Shelf P)) → List (Kept P)
parts_on None = []
parts_on (Some shelves) = all_parts shelves

abbrev pub room_on : {P : Type 0} → Option (List (ℕ × Shelf P)) → Partition → ℕ
room_on None partition = 0
room_on (Some shelves) partition = room_of (shelf_at partition shelves)

-- the parts of a table
abbrev pub parts_of : {P : Type 0} → PartSet P → List ℕ → List (Kept P)
parts_of set table = parts_on (get (slice_cmp nat_cmp) set.tables table)

-- one more part of the table's partition can be added without memory
abbrev pub HasRoom : {P : Type 0} → PartSet P → List ℕ → Partition → Type 0
HasRoom set table partition = 0 < room_on (get (slice_cmp nat_cmp) set.tables table) partition

-- the shelves of a table
abbrev pub shelves_of : {P : Type 0} → BTreeMap (List ℕ) (List (ℕ × Shelf P)) → List ℕ → Option (List (ℕ × Shelf P))
shelves_of tables table = get (slice_cmp nat_cmp) tables table

-- the table got these shelves, and all others stayed
abbrev pub IsPut : {P : Type 0} → BTreeMap (List ℕ) (List (ℕ × Shelf P)) → BTreeMap (List ℕ) (List (ℕ × Shelf P)) → List ℕ → List (ℕ × Shelf P) → Type 0
IsPut old new table shelves = UpdatesBy (slice_cmp nat_cmp) (slice_cmp nat_cmp table) old new (Some shelves)
