-- The types of a schema's columns, and which rule it breaks first.
use Rattle.std.specs.Prelude.{ℕ, ◌+◌, List, [], ◌∷◌, ◌++◌, Option, Some, None, Bool, false, not, ◌&&◌, if◌then◌else◌, map, nat_eq, nat_le, nat_lt}
use Rattle.std.specs.List.{list_any, position}
use Rattle.std.specs.Option.{option_map}
use Rattle.std.specs.Cmp.Lexicographic.{pointwise}
use Rattle.mt_base.specs.Limits.{granularity_limit, set_limit}
use Rattle.mt_values.specs.declared.schema.Column.{Column}
use Rattle.mt_values.specs.declared.schema.IndexKind.{IndexKind}
use Rattle.mt_values.specs.declared.schema.IndexKind.TheVariants as kind
use Rattle.mt_values.specs.declared.schema.KeyOrder.{KeyOrder}
use Rattle.mt_values.specs.declared.schema.KeyOrder.TheVariants.{SortingFirst, PrimaryFirst}
use Rattle.mt_values.specs.declared.schema.Schema.{Schema}
use Rattle.mt_values.specs.declared.schema.SchemaFault.{SchemaFault}
use Rattle.mt_values.specs.declared.schema.SchemaFault.TheVariants as fault
use Rattle.mt_values.specs.declared.schema.SkipIndex.{SkipIndex}
use Rattle.mt_values.specs.declared.value.ColType.{ColType}
use Rattle.mt_values.specs.Engines.{aggregate_engine_fault, aggregate_key_fault, first_place, has_type_that, is_kept_apart, is_misfit, is_not_numeric, is_of_signs, nothing_fault, sign_key_fault, sign_place, summed_places, type_fault, version_place}
pub use Rattle.mt_values.specs.Engines.{is_unsigned}

-- the types of a table's columns, in order
abbrev pub column_types : Schema → List ColType
column_types schema = map (λ (c : Column). c.col_type) schema.columns

-- what is told of the first item that is the same as an earlier one, and of its place, counted from a place on
abbrev pub first_repeat : {X Y : Type 0} → (X → X → Bool) → (ℕ → X → Y) → ℕ → List X → List X → Option Y
first_repeat same tell place earlier [] = None
first_repeat same tell place earlier (x ∷ xs) =
    if list_any (λ y. same y x) earlier then Some (tell place x) else first_repeat same tell (place + 1) (earlier ++ x ∷ []) xs

-- both columns have one name
abbrev pub same_name : Column → Column → Bool
same_name a b = pointwise nat_eq a.name b.name

-- the fault of the column at a place, whose name is an earlier one's
abbrev pub double_column_at : ℕ → Column → SchemaFault
double_column_at place column = fault.DoubleColumn place

-- both skip indexes have one name
abbrev pub same_index_name : SkipIndex → SkipIndex → Bool
same_index_name a b = pointwise nat_eq a.name b.name

-- the fault of the skip index at a place, whose name is an earlier one's
abbrev pub double_index_at : ℕ → SkipIndex → SchemaFault
double_index_at place index = fault.DoubleIndex place

-- the fault of a key's mention of a column, by the mention's place and the column's
abbrev pub double_key_at : ℕ → ℕ → SchemaFault
double_key_at place column = fault.DoubleKey column

-- the first column that has the name of an earlier one
abbrev pub column_fault : List Column → Option SchemaFault
column_fault columns = first_repeat same_name double_column_at 0 [] columns

-- the first skip index that has the name of an earlier one (docs/definitions.md, "Schemas")
abbrev pub index_fault : List SkipIndex → Option SchemaFault
index_fault indexes = first_repeat same_index_name double_index_at 0 [] indexes

-- the first mention in the key that repeats an earlier one
abbrev pub key_fault : List ℕ → Option SchemaFault
key_fault key = first_repeat nat_eq double_key_at 0 [] key

-- the first fault, or else the second
abbrev pub fault_or : Option SchemaFault → Option SchemaFault → Option SchemaFault
fault_or None other = other
fault_or (Some found) other = Some found

-- the first mention in either key that repeats an earlier one of it, by which key is written first (docs/definitions.md, "Schemas")
abbrev pub keys_fault : KeyOrder → List ℕ → List ℕ → Option SchemaFault
keys_fault SortingFirst key primary = fault_or (key_fault key) (key_fault primary)
keys_fault PrimaryFirst key primary = fault_or (key_fault primary) (key_fault key)

-- the first column of the primary key that is not the sorting key's at its place (ClickHouse, MergeTree: "Choosing a Primary Key that Differs from the Sorting Key")
abbrev pub prefix_fault : List ℕ → List ℕ → Option SchemaFault
prefix_fault key [] = None
prefix_fault [] (column ∷ columns) = Some (fault.NotPrefix column)
prefix_fault (own ∷ key) (column ∷ columns) = if nat_eq own column then prefix_fault key columns else Some (fault.NotPrefix column)

-- a column that is there has unsigned numbers (docs/definitions.md, "Schemas")
abbrev pub is_unsigned_column : Option Column → Bool
is_unsigned_column column = has_type_that is_unsigned column

-- the partition column is not unsigned (ClickHouse, MergeTree: PARTITION BY; docs/definitions.md, "Schemas")
abbrev pub partition_fault : List Column → Option ℕ → Option SchemaFault
partition_fault columns place = type_fault is_unsigned fault.PartitionType columns place

-- the rows of a granule are not from 1 to 65536 (ClickHouse, MergeTree: index_granularity; docs/definitions.md, "Schemas")
abbrev pub granularity_fault : ℕ → Option SchemaFault
granularity_fault rows = if nat_le 1 rows && nat_le rows granularity_limit then None else Some fault.Granularity

-- the granules of a block are not from 1 to 65536 (ClickHouse, MergeTree: "Data Skipping Indexes", GRANULARITY; docs/definitions.md, "Schemas")
abbrev pub has_no_span : SkipIndex → Bool
has_no_span index = not (nat_le 1 index.granularity && nat_le index.granularity granularity_limit)

-- the first skip index whose blocks have no granules or too many (docs/definitions.md, "Schemas")
abbrev pub index_granularity_fault : List SkipIndex → Option SchemaFault
index_granularity_fault indexes = option_map fault.IndexGranularity (position has_no_span indexes)

-- more values of a block may be kept than there are numbers of 32 bits above 0 (ClickHouse, MergeTree: "Skip Index Types", set; docs/definitions.md, "Schemas")
abbrev pub is_large : IndexKind → Bool
is_large kind.MinMax = false
is_large (kind.Set limit) = nat_lt set_limit limit

-- the same of a skip index (docs/definitions.md, "Schemas")
abbrev pub has_large_set : SkipIndex → Bool
has_large_set index = is_large index.kind

-- the first skip index that may keep too many values of a block (docs/definitions.md, "Schemas")
abbrev pub set_size_fault : List SkipIndex → Option SchemaFault
set_size_fault indexes = option_map fault.SetSize (position has_large_set indexes)

-- a table has at least one column (docs/definitions.md, "Schemas")
abbrev pub empty_fault : List Column → Option SchemaFault
empty_fault [] = Some fault.NoColumns
empty_fault (column ∷ columns) = None

-- the first fault that there is (docs/definitions.md, "Schemas")
abbrev pub first_fault : List (Option SchemaFault) → Option SchemaFault
first_fault [] = None
first_fault (found ∷ others) = fault_or found (first_fault others)

-- a sign has the type Int8, and is neither in the sorting key nor the partition column (docs/engines.md, "Columns")
abbrev pub sign_fault : Schema → Option SchemaFault
sign_fault schema =
    fault_or (type_fault is_of_signs fault.SignType schema.columns (sign_place schema.engine))
    (sign_key_fault schema.key schema.partition (sign_place schema.engine))

-- the columns to be summed have numbers, and are neither in the sorting key nor the partition column; there is one at least (docs/engines.md, "Columns")
abbrev pub sum_fault : Schema → Option SchemaFault
sum_fault schema =
    first_fault (first_place (is_not_numeric schema.columns) fault.SumType (summed_places schema.engine)
    ∷ first_place (is_kept_apart schema.key schema.partition) fault.SumKey (summed_places schema.engine) ∷ nothing_fault schema.engine ∷ [])

-- columns with a function stand in AggregatingMergeTree alone and outside key and partition, and each function takes its column's type (docs/engines.md, "Columns")
abbrev pub function_fault : Schema → Option SchemaFault
function_fault schema =
    first_fault (aggregate_engine_fault schema.engine schema.columns ∷ aggregate_key_fault 0 schema.key schema.partition schema.columns
    ∷ option_map fault.AggregateType (position is_misfit schema.columns) ∷ [])

-- the first rule of its engine that the schema breaks (docs/engines.md, "Columns")
abbrev pub engine_fault : Schema → Option SchemaFault
engine_fault schema =
    first_fault (type_fault is_unsigned fault.VersionType schema.columns (version_place schema.engine) ∷ sign_fault schema
    ∷ sum_fault schema ∷ function_fault schema ∷ [])

-- The first rule that the schema breaks, by which key is written first. The list of an engine comes before both in the text (docs/definitions.md, "Schemas").
abbrev pub schema_fault_as : KeyOrder → Schema → Option SchemaFault
schema_fault_as first schema =
    first_fault (empty_fault schema.columns ∷ column_fault schema.columns ∷ index_fault schema.indexes ∷ key_fault (summed_places schema.engine)
    ∷ keys_fault first schema.key schema.primary ∷ prefix_fault schema.key schema.primary ∷ partition_fault schema.columns schema.partition
    ∷ engine_fault schema ∷ granularity_fault schema.granularity ∷ index_granularity_fault schema.indexes ∷ set_size_fault schema.indexes ∷ [])

-- the first rule that the schema breaks, the sorting key tried first (docs/definitions.md, "Schemas")
abbrev pub schema_fault : Schema → Option SchemaFault
schema_fault schema = schema_fault_as SortingFirst schema
