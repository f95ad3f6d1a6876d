-- The rows of one partition and key (docs/definitions.md, "Partly folded rows").
use Rattle.std.specs.Prelude.{◌≡◌, ◌&&◌, Bool, true}
use Rattle.std.specs.Ordering.{is_eq}
use Rattle.mt_base.specs.declared.partition.Partition.{Partition}
use Rattle.mt_values.specs.declared.schema.Schema.{Schema}
use Rattle.mt_values.specs.Tables.{partition_of, same_partition, sorting_cmp}
use Rattle.mt_values.specs.Values.{Row}

-- whether a row is of a partition, and of the key of another row (docs/definitions.md, "Partly folded rows")
abbrev pub is_of_key : Schema → Partition → Row → Row → Bool
is_of_key schema partition row r = same_partition (partition_of schema r) partition && is_eq (sorting_cmp schema row r)

-- a test says the same of all rows of a partition and key (docs/definitions.md, "Partly folded rows")
abbrev pub SaysOfKeys : Schema → (Row → Bool) → Type 0
SaysOfKeys schema test = (partition : Partition) (row : Row) → (says : Bool) × ((r : Row) → is_of_key schema partition row r ≡ true → test r ≡ says)
