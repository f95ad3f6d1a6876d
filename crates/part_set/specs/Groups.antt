-- The names of the root, table by table.
use Rattle.std.specs.Prelude.{◌≡◌, ℕ, Bool, false, not, ◌||◌, List, Option, Some, None, is_some, if◌then◌else◌}
use Rattle.std.specs.BTreeMap.{BTreeMap, get}
use Rattle.std.specs.Cmp.Lexicographic.{slice_cmp}
use Rattle.std.specs.List.{filter_map, list_any}
use Rattle.std.specs.Ordering.{is_eq, nat_cmp}
use Rattle.part_name.specs.declared.part.PartName.{PartName}
use Rattle.part_set.specs.declared.root_name.RootName.{RootName}
use Rattle.part_set.specs.declared.root_name.RootName.TheVariants.{Create, Part}

-- equal bytes
abbrev pub is_same : List ℕ → List ℕ → Bool
is_same a b = is_eq (slice_cmp nat_cmp a b)

-- the name is the table's own
abbrev pub is_create : List ℕ → RootName → Bool
is_create table (Create t) = is_same t table
is_create table (Part part) = false

-- the table is among the names
abbrev pub has_table : List RootName → List ℕ → Bool
has_table names table = list_any (is_create table) names

-- the name of a part of the table
abbrev pub name_in : List ℕ → RootName → Option PartName
name_in table (Create t) = None
name_in table (Part part) = if is_same part.table table then Some part.name else None

-- the names of the parts of a table, as they stand
abbrev pub names_in : List RootName → List ℕ → List PartName
names_in names table = filter_map (name_in table) names

-- a part whose table is not there, or to which a mutation was applied
abbrev pub orphan_by : (List ℕ → Bool) → RootName → Bool
orphan_by there (Create table) = false
orphan_by there (Part part) = not (there part.table) || is_some part.name.mutation

-- what the map has for a table
abbrev pub group_of : BTreeMap (List ℕ) (List PartName) → List ℕ → Option (List PartName)
group_of groups table = get (slice_cmp nat_cmp) groups table

-- a list for each table, and no other
abbrev pub grouped : List RootName → List PartName → List ℕ → Option (List PartName)
grouped names parts table = if has_table names table then Some parts else None

-- for each table that is among the names, the names of its parts among the ones that were gone over
abbrev pub AreGroups : List RootName → List RootName → BTreeMap (List ℕ) (List PartName) → Type 0
AreGroups names seen groups = (table : List ℕ) → group_of groups table ≡ grouped names (names_in seen table) table
