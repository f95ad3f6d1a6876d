-- The partitions of a table's rows.
use Rattle.std.proofs.Common.{zero, suc, ◌≡◌, ℕ, ◌<◌, Bool, true, false, cond, List, [], ◌∷◌, Option, Some, None, map, All, refl, ap, ◌∙◌, subst, slice_get}
use Rattle.std.proofs.lemmas.List.Elements.{All-head, All-tail, All-weaker}
use Rattle.mt_values.specs.declared.schema.Column.{Column}
use Rattle.mt_values.specs.declared.schema.KeyOrder.TheVariants.{SortingFirst}
use Rattle.mt_values.specs.declared.schema.Schema.{Schema}
use Rattle.mt_values.specs.declared.schema.SchemaFault.{SchemaFault}
use Rattle.mt_values.specs.declared.schema.SchemaFault.TheVariants as fault
use Rattle.mt_values.specs.declared.value.Value.{Value}
use Rattle.mt_values.specs.declared.value.Value.TheVariants as value
use Rattle.mt_values.specs.Engines.{is_unsigned, summed_places, type_fault, version_place}
use Rattle.mt_values.specs.Schemas.{column_fault, column_types, empty_fault, engine_fault, fault_or, function_fault, granularity_fault, index_fault, index_granularity_fault, is_unsigned_column, key_fault, keys_fault, partition_fault, prefix_fault, schema_fault, set_size_fault, sign_fault, sum_fault}
use Rattle.mt_values.specs.Tables.{IsPartitionBy, MayHavePartition, number_at, number_in, numbers_of, numbers_of_column, partition_by_column, partition_of}
use Rattle.mt_values.specs.Values.{FitsType, IsValue, Row, type_of, types_of}

-- a value that a column may hold fits its type
value_fits : (v : Value) → IsValue v → FitsType v
value_fits (value.UInt8 n) is = is
value_fits (value.UInt16 n) is = is
value_fits (value.UInt32 n) is = is
value_fits (value.UInt64 n) is = is
value_fits (value.Int8 n) is = is
value_fits (value.Int16 n) is = is
value_fits (value.Int32 n) is = is
value_fits (value.Int64 n) is = is
value_fits (value.Text bytes) is = tt

-- so do a row's
pub values_fit : (row : Row) → All IsValue row → All FitsType row
values_fit row are = All-weaker IsValue FitsType value_fits row are

-- the number of a value of an unsigned type is one of the type's
number_fits : (v : Value) → is_unsigned (type_of v) ≡ true → FitsType v → number_in v < numbers_of (type_of v)
number_fits (value.UInt8 n) unsigned fits = fits
number_fits (value.UInt16 n) unsigned fits = fits
number_fits (value.UInt32 n) unsigned fits = fits
number_fits (value.UInt64 n) unsigned fits = fits
number_fits (value.Int8 n) unsigned fits = cc
number_fits (value.Int16 n) unsigned fits = cc
number_fits (value.Int32 n) unsigned fits = cc
number_fits (value.Int64 n) unsigned fits = cc
number_fits (value.Text bytes) unsigned fits = cc

-- so is that of the value at a place of a row, whose column is unsigned
value_fits_at : (columns : List Column) (row : Row) (place : ℕ) → types_of row ≡ map (λ (c : Column). c.col_type) columns → All FitsType row
    → is_unsigned_column (slice_get columns place) ≡ true → number_at (slice_get row place) < numbers_of_column (slice_get columns place)
value_fits_at [] row place types fits unsigned = cc
value_fits_at (c ∷ cs) [] place types fits unsigned = cc
value_fits_at (c ∷ cs) (v ∷ vs) zero types fits unsigned =
    let same : type_of v ≡ c.col_type = cc in
    subst (λ t. number_in v < numbers_of t) same (number_fits v (ap is_unsigned same ∙ unsigned) (All-head FitsType v vs fits))
value_fits_at (c ∷ cs) (v ∷ vs) (suc place) types fits unsigned =
    let rest : types_of vs ≡ map (λ (d : Column). d.col_type) cs = cc in
    value_fits_at cs vs place rest (All-tail FitsType v vs fits) unsigned

-- where no fault is found among two, neither is there
pub none_before : (a b : Option SchemaFault) → fault_or a b ≡ None → a ≡ None
none_before None b none = refl
none_before (Some f) b none = cc

pub none_after : (a b : Option SchemaFault) → fault_or a b ≡ None → b ≡ None
none_after None b none = none
none_after (Some f) b none = cc

-- where no rule is broken, neither is that for the primary key, nor that for the partition column, nor any of the engine
module _ (schema : Schema) (sound : schema_fault schema ≡ None) where
  abbrev after_engine : Option SchemaFault
  after_engine =
      fault_or (granularity_fault schema.granularity)
      (fault_or (index_granularity_fault schema.indexes) (fault_or (set_size_fault schema.indexes) None))

  abbrev after_partition : Option SchemaFault
  after_partition = fault_or (engine_fault schema) after_engine

  abbrev after_prefix : Option SchemaFault
  after_prefix = fault_or (partition_fault schema.columns schema.partition) after_partition

  abbrev after_keys : Option SchemaFault
  after_keys = fault_or (prefix_fault schema.key schema.primary) after_prefix

  abbrev after_list : Option SchemaFault
  after_list = fault_or (keys_fault SortingFirst schema.key schema.primary) after_keys

  abbrev after_indexes : Option SchemaFault
  after_indexes = fault_or (key_fault (summed_places schema.engine)) after_list

  abbrev after_columns : Option SchemaFault
  after_columns = fault_or (index_fault schema.indexes) after_indexes

  keys_sound : after_keys ≡ None
  keys_sound =
      none_after (keys_fault SortingFirst schema.key schema.primary) after_keys
      (none_after (key_fault (summed_places schema.engine)) after_list
      (none_after (index_fault schema.indexes) after_indexes
      (none_after (column_fault schema.columns) after_columns
      (none_after (empty_fault schema.columns) (fault_or (column_fault schema.columns) after_columns) sound))))

  pub prefix_sound : prefix_fault schema.key schema.primary ≡ None
  prefix_sound = none_before (prefix_fault schema.key schema.primary) after_prefix keys_sound

  partition_on : after_prefix ≡ None
  partition_on = none_after (prefix_fault schema.key schema.primary) after_prefix keys_sound

  pub partition_sound : partition_fault schema.columns schema.partition ≡ None
  partition_sound = none_before (partition_fault schema.columns schema.partition) after_partition partition_on

  engine_on : after_partition ≡ None
  engine_on = none_after (partition_fault schema.columns schema.partition) after_partition partition_on

  pub engine_sound : engine_fault schema ≡ None
  engine_sound = none_before (engine_fault schema) after_engine engine_on

  sizes_sound : after_engine ≡ None
  sizes_sound = none_after (engine_fault schema) after_engine engine_on

  pub granularity_sound : granularity_fault schema.granularity ≡ None
  granularity_sound =
      none_before (granularity_fault schema.granularity) (fault_or (index_granularity_fault schema.indexes) (fault_or (set_size_fault schema.indexes) None)) sizes_sound

  index_sizes_sound : fault_or (index_granularity_fault schema.indexes) (fault_or (set_size_fault schema.indexes) None) ≡ None
  index_sizes_sound =
      none_after (granularity_fault schema.granularity) (fault_or (index_granularity_fault schema.indexes) (fault_or (set_size_fault schema.indexes) None)) sizes_sound

  pub spans_sound : index_granularity_fault schema.indexes ≡ None
  spans_sound = none_before (index_granularity_fault schema.indexes) (fault_or (set_size_fault schema.indexes) None) index_sizes_sound

  pub sets_sound : set_size_fault schema.indexes ≡ None
  sets_sound =
      none_before (set_size_fault schema.indexes) None
      (none_after (index_granularity_fault schema.indexes) (fault_or (set_size_fault schema.indexes) None) index_sizes_sound)

  -- a version breaks no rule of its type
  pub version_sound : type_fault is_unsigned fault.VersionType schema.columns (version_place schema.engine) ≡ None
  version_sound =
      none_before (type_fault is_unsigned fault.VersionType schema.columns (version_place schema.engine))
      (fault_or (sign_fault schema) (fault_or (sum_fault schema) (fault_or (function_fault schema) None))) engine_sound

-- a partition column that breaks no rule is unsigned
pub unsigned_there : (columns : List Column) (place : ℕ) → partition_fault columns (Some place) ≡ None → is_unsigned_column (slice_get columns place) ≡ true
unsigned_there columns place sound = by (is_unsigned_column (slice_get columns place)) sound
  where
    by : (b : Bool) → cond b None (Some (fault.PartitionType place)) ≡ None → b ≡ true
    by true sound = refl
    by false sound = cc

pub row_has_partition : (schema : Schema) (row : Row) → schema_fault schema ≡ None → types_of row ≡ column_types schema → All FitsType row
    → MayHavePartition schema (partition_of schema row)
row_has_partition schema row sound types fits = by schema.partition (partition_sound schema sound)
  where
    by : (o : Option ℕ) → partition_fault schema.columns o ≡ None → IsPartitionBy schema.columns o (partition_by_column o row)
    by None sound = tt
    by (Some place) sound = value_fits_at schema.columns row place types fits (unsigned_there schema.columns place sound)
