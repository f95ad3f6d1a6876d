-- What engines ask of the columns of their tables, and the columns that they name (docs/engines.md, "Columns"; ClickHouse, MergeTree family).
use Rattle.std.specs.Prelude.{ℕ, ◌+◌, ◌&&◌, ◌||◌, Bool, true, false, not, if◌then◌else◌, is_some, nat_eq, List, [], ◌∷◌, Option, Some, None, slice_get, pos, negsuc, ℤ}
use Rattle.std.specs.List.{list_any, position}
use Rattle.std.specs.Option.{option_map}
use Rattle.std.specs.Ordering.{int_eq}
use Rattle.mt_values.specs.declared.engine.Aggregate.{Aggregate}
use Rattle.mt_values.specs.declared.engine.Aggregate.TheVariants as aggregate
use Rattle.mt_values.specs.declared.engine.Engine.{Engine}
use Rattle.mt_values.specs.declared.engine.Engine.TheVariants as engine
use Rattle.mt_values.specs.declared.schema.Column.{Column}
use Rattle.mt_values.specs.declared.schema.SchemaFault.{SchemaFault}
use Rattle.mt_values.specs.declared.schema.SchemaFault.TheVariants as fault
use Rattle.mt_values.specs.declared.value.ColType.{ColType}
use Rattle.mt_values.specs.declared.value.ColType.TheVariants as type
use Rattle.mt_values.specs.declared.value.Value.{Value}
use Rattle.mt_values.specs.declared.value.Value.TheVariants as value
use Rattle.mt_values.specs.Values.{Row}

-- ---- types

-- the type's numbers have no sign (docs/definitions.md, "Schemas")
abbrev pub is_unsigned : ColType → Bool
is_unsigned type.UInt8 = true
is_unsigned type.UInt16 = true
is_unsigned type.UInt32 = true
is_unsigned type.UInt64 = true
is_unsigned t = false

-- the type of a sign (ClickHouse, CollapsingMergeTree: sign, "Column data type: Int8"; docs/engines.md, "Columns")
abbrev pub is_of_signs : ColType → Bool
is_of_signs type.Int8 = true
is_of_signs t = false

-- the values of the type are numbers (ClickHouse, SummingMergeTree: columns, "must be of numeric type"; docs/engines.md, "Columns")
abbrev pub is_numeric : ColType → Bool
is_numeric type.Text = false
is_numeric t = true

-- the function takes values of the type (ClickHouse, SimpleAggregateFunction; docs/engines.md, "Columns")
abbrev pub takes_type : Aggregate → ColType → Bool
takes_type aggregate.Sum type.Int64 = true
takes_type aggregate.Sum type.UInt64 = true
takes_type aggregate.Sum t = false
takes_type aggregate.BitAnd t = is_unsigned t
takes_type aggregate.BitOr t = is_unsigned t
takes_type aggregate.BitXor t = is_unsigned t
takes_type f t = true

-- a column that is there has a type that passes (docs/engines.md, "Columns")
abbrev pub has_type_that : (ColType → Bool) → Option Column → Bool
has_type_that passes None = false
has_type_that passes (Some column) = passes column.col_type

-- ---- the columns that an engine names

-- the columns to be summed, as its list names them, or where it has none each that may be (ClickHouse, SummingMergeTree: columns; docs/engines.md, "Columns")
abbrev pub summed_places : Engine → List ℕ
summed_places (engine.Summing places) = places
summed_places e = []

-- the version (ClickHouse, ReplacingMergeTree: ver, and VersionedCollapsingMergeTree: version; docs/engines.md, "Columns")
abbrev pub version_place : Engine → Option ℕ
version_place (engine.Replacing version) = version
version_place (engine.Versioned sign version) = Some version
version_place e = None

-- the sign (ClickHouse, CollapsingMergeTree: sign, and VersionedCollapsingMergeTree: sign; docs/engines.md, "Columns")
abbrev pub sign_place : Engine → Option ℕ
sign_place (engine.Collapsing sign) = Some sign
sign_place (engine.Versioned sign version) = Some sign
sign_place e = None

-- the version by which rows of equal keys are sorted, where the key lacks it (ClickHouse, VersionedCollapsingMergeTree: "adds it to the primary key implicitly"; docs/engines.md, "Columns")
abbrev pub added_version : Engine → List ℕ → List ℕ
added_version (engine.Versioned sign version) key = if list_any (λ own. nat_eq own version) key then [] else version ∷ []
added_version e key = []

-- the column of the partition is at this place (docs/engines.md, "Columns")
abbrev pub is_at : Option ℕ → ℕ → Bool
is_at None place = false
is_at (Some own) place = nat_eq own place

-- the column at a place is in the sorting key or is the partition column (docs/engines.md, "Columns")
abbrev pub is_kept_apart : List ℕ → Option ℕ → ℕ → Bool
is_kept_apart key partition place = list_any (λ own. nat_eq own place) key || is_at partition place

-- the places of the columns of numbers, from a place on, that neither key nor partition has (ClickHouse, SummingMergeTree: "If columns is not specified"; docs/engines.md, "Columns")
abbrev pub summable_from : ℕ → List ℕ → Option ℕ → List Column → List ℕ
summable_from place key partition [] = []
summable_from place key partition (column ∷ columns) =
    if is_numeric column.col_type && not (is_kept_apart key partition place)
    then place ∷ summable_from (place + 1) key partition columns
    else summable_from (place + 1) key partition columns

-- ---- signs of rows

-- whether a value is this sign; a sign's column has the type Int8 (docs/engines.md, "CollapsingMergeTree")
abbrev pub is_sign : ℤ → Option Value → Bool
is_sign sign None = false
is_sign sign (Some (value.Int8 z)) = int_eq z sign
is_sign sign (Some v) = false

-- the sign is 1 or -1 (ClickHouse, CollapsingMergeTree: sign; docs/engines.md, "CollapsingMergeTree")
abbrev pub is_signed : ℕ → Row → Bool
is_signed sign row = is_sign (pos 1) (slice_get row sign) || is_sign (negsuc 0) (slice_get row sign)

-- the same where the table has a sign at all (docs/engines.md, "Columns")
abbrev pub keeps_sign : Option ℕ → Row → Bool
keeps_sign None row = true
keeps_sign (Some sign) row = is_signed sign row

-- ---- the rules of engines, each with its first fault

-- the column at a place, where one is named, has a type that passes (docs/engines.md, "Columns")
abbrev pub type_fault : (ColType → Bool) → (ℕ → SchemaFault) → List Column → Option ℕ → Option SchemaFault
type_fault passes tell columns None = None
type_fault passes tell columns (Some place) = if has_type_that passes (slice_get columns place) then None else Some (tell place)

-- the sign is neither in the sorting key nor the partition column (docs/engines.md, "Columns")
abbrev pub sign_key_fault : List ℕ → Option ℕ → Option ℕ → Option SchemaFault
sign_key_fault key partition None = None
sign_key_fault key partition (Some sign) = if is_kept_apart key partition sign then Some (fault.SignKey sign) else None

-- what is told of the first place that fails (docs/engines.md, "Columns")
abbrev pub first_place : (ℕ → Bool) → (ℕ → SchemaFault) → List ℕ → Option SchemaFault
first_place fails tell [] = None
first_place fails tell (place ∷ places) = if fails place then Some (tell place) else first_place fails tell places

-- a column to be summed has no numbers (docs/engines.md, "Columns")
abbrev pub is_not_numeric : List Column → ℕ → Bool
is_not_numeric columns place = not (has_type_that is_numeric (slice_get columns place))

-- an engine that sums has a column to sum (docs/engines.md, "Columns")
abbrev pub nothing_fault : Engine → Option SchemaFault
nothing_fault (engine.Summing []) = Some fault.NothingToSum
nothing_fault e = None

-- the engine folds columns by their functions (ClickHouse, AggregatingMergeTree; docs/engines.md, "Columns")
abbrev pub folds_functions : Engine → Bool
folds_functions engine.Aggregating = true
folds_functions e = false

-- the column is a SimpleAggregateFunction (docs/engines.md, "Columns")
abbrev pub has_function : Column → Bool
has_function column = is_some column.function

-- such columns stand in AggregatingMergeTree alone (docs/engines.md, "Columns")
abbrev pub aggregate_engine_fault : Engine → List Column → Option SchemaFault
aggregate_engine_fault e columns = if folds_functions e then None else option_map fault.AggregateEngine (position has_function columns)

-- such columns, from a place on, stand outside key and partition (docs/engines.md, "Columns")
abbrev pub aggregate_key_fault : ℕ → List ℕ → Option ℕ → List Column → Option SchemaFault
aggregate_key_fault place key partition [] = None
aggregate_key_fault place key partition (column ∷ columns) =
    if has_function column && is_kept_apart key partition place then Some (fault.AggregateKey place)
    else aggregate_key_fault (place + 1) key partition columns

-- a function, where there is one, does not take the type (docs/engines.md, "Columns")
abbrev pub refuses_type : Option Aggregate → ColType → Bool
refuses_type None t = false
refuses_type (Some f) t = not (takes_type f t)

-- the column's function does not take its type (docs/engines.md, "Columns")
abbrev pub is_misfit : Column → Bool
is_misfit column = refuses_type column.function column.col_type
