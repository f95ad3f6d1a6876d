-- What a schema says of its table's rows: their order, and the partition of each (ClickHouse, MergeTree: ORDER BY, PARTITION BY).
use Rattle.std.specs.Prelude.{◌≡◌, ℕ, ◌<◌, ◌^◌, Bool, true, false, nat_eq, List, ◌++◌, Option, Some, None, slice_get}
use Rattle.std.specs.declared.cmp.Ordering.{Ordering}
use Rattle.mt_base.specs.declared.partition.Partition.{Partition}
use Rattle.mt_base.specs.declared.partition.Partition.TheVariants.{Whole, Number}
use Rattle.mt_values.specs.declared.engine.Engine.TheVariants as engine
use Rattle.mt_values.specs.declared.schema.Column.{Column}
use Rattle.mt_values.specs.declared.schema.Schema.{Schema}
use Rattle.mt_values.specs.declared.value.ColType.{ColType}
use Rattle.mt_values.specs.declared.value.ColType.TheVariants as type
use Rattle.mt_values.specs.declared.value.Value.{Value}
use Rattle.mt_values.specs.declared.value.Value.TheVariants as value
use Rattle.mt_values.specs.Values.{Row}
use Rattle.mt_values.specs.Order.{key_cmp}
use Rattle.mt_values.specs.Engines.{added_version, keeps_sign, sign_place}

-- the columns by which a table's rows are ordered: those of its key, and then the version where a versioned collapsing table's key lacks it (docs/definitions.md, "Order")
abbrev pub sorting_columns : Schema → List ℕ
sorting_columns schema = schema.key ++ added_version schema.engine schema.key

-- the order of a table's rows (docs/definitions.md, "Order")
abbrev pub sorting_cmp : Schema → Row → Row → Ordering
sorting_cmp schema = key_cmp (sorting_columns schema)

-- the number of a value of an unsigned column; no other column parts a table (docs/definitions.md, "Partitions")
abbrev pub number_in : Value → ℕ
number_in (value.UInt8 n) = n
number_in (value.UInt16 n) = n
number_in (value.UInt32 n) = n
number_in (value.UInt64 n) = n
number_in v = 0

-- the number of a value that is there; each row has a value of each column (docs/definitions.md, "Partitions")
abbrev pub number_at : Option Value → ℕ
number_at None = 0
number_at (Some v) = number_in v

-- the partition of a row by the partition column, where there is one (ClickHouse, MergeTree: "Custom Partitioning Key"; docs/definitions.md, "Partitions")
abbrev pub partition_by_column : Option ℕ → Row → Partition
partition_by_column None row = Whole
partition_by_column (Some place) row = Number (number_at (slice_get row place))

-- the partition of a table's row (docs/definitions.md, "Partitions")
abbrev pub partition_of : Schema → Row → Partition
partition_of schema row = partition_by_column schema.partition row

-- the numbers of an unsigned type are those below this; other types have none (ClickHouse, UInt8 to UInt64)
abbrev pub numbers_of : ColType → ℕ
numbers_of type.UInt8 = 2 ^ 8
numbers_of type.UInt16 = 2 ^ 16
numbers_of type.UInt32 = 2 ^ 32
numbers_of type.UInt64 = 2 ^ 64
numbers_of t = 0

-- the same of a column that is there (docs/definitions.md, "Partitions")
abbrev pub numbers_of_column : Option Column → ℕ
numbers_of_column None = 0
numbers_of_column (Some column) = numbers_of column.col_type

-- a partition by a column of these, where there is one: the whole without it, and with it a number of its type (docs/definitions.md, "Partitions")
abbrev pub IsPartitionBy : List Column → Option ℕ → Partition → Type 0
IsPartitionBy columns None Whole = Unit {0}
IsPartitionBy columns None (Number n) = ⊥
IsPartitionBy columns (Some place) Whole = ⊥
IsPartitionBy columns (Some place) (Number n) = n < numbers_of_column (slice_get columns place)

-- a partition that rows of the table may have (docs/definitions.md, "Partitions")
abbrev pub MayHavePartition : Schema → Partition → Type 0
MayHavePartition schema partition = IsPartitionBy schema.columns schema.partition partition

-- whether both are one partition (docs/definitions.md, "Partitions")
abbrev pub same_partition : Partition → Partition → Bool
same_partition Whole Whole = true
same_partition (Number m) (Number n) = nat_eq m n
same_partition a b = false

-- merges of the table fold no rows (ClickHouse, MergeTree; docs/engines.md, "Merges")
abbrev pub IsPlain : Schema → Type 0
IsPlain schema = schema.engine ≡ engine.Plain

-- the sign of a table's row is 1 or -1, where the table has a sign (ClickHouse, CollapsingMergeTree: sign; docs/engines.md, "Columns")
abbrev pub has_sign : Schema → Row → Bool
has_sign schema row = keeps_sign (sign_place schema.engine) row
