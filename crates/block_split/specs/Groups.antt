-- Places of rows, in groups by the number in the partition column.
use Rattle.std.specs.Prelude.{ℕ, ◌++◌, List, [], ◌∷◌, if◌then◌else◌, nat_eq}
use Rattle.mt_base.specs.declared.partition.Partition.{Partition}
use Rattle.mt_base.specs.declared.partition.Partition.TheVariants.{Number}
use Rattle.mt_values.specs.Grid.{picked}
use Rattle.mt_values.specs.Values.{Row}
use Rattle.block_split.specs.declared.grouping.Group.{Group}

-- a group's partition, and the rows at its places (docs/definitions.md, "Partitions")
abbrev pub group_rows : List Row → Group → Partition × List Row
group_rows rows g = (Number g.number, picked rows g.places)

-- the groups with a place more: the last one of its number's group, or the first of a new group (docs/definitions.md, "Partitions")
abbrev pub placed : ℕ → ℕ → List Group → List Group
placed number place [] = record { number = number; places = place ∷ [] } ∷ []
placed number place (g ∷ gs) = if nat_eq number g.number then record g { places = g.places ++ place ∷ [] } ∷ gs else g ∷ placed number place gs
