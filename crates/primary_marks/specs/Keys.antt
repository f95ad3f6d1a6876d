-- Bytes that are primary.bin (docs/formats.md, "Primary keys").
use Rattle.std.specs.Prelude.{◌≡◌, ℕ, ◌+◌, ◌-◌, ◌*◌, ◌<◌, Bool, true, nat_eq, List, length, min, slice_get, All}
use Rattle.std.specs.List.{filter_map}
use Rattle.mt_values.specs.declared.schema.Schema.{Schema}
use Rattle.mt_values.specs.declared.value.ColType.{ColType}
use Rattle.mt_values.specs.Grid.{AreRowsOf}
use Rattle.mt_values.specs.Schemas.{column_types}
use Rattle.mt_values.specs.Values.{FitsType, Row, types_of}
use Rattle.column_file.specs.Marks.{granules, keys_bytes}

-- what is known of a part before its primary.bin is read: the types of its primary key, the size of its granules, its number of rows
pub record KeyShape : Type 0 where
  pub types : List ColType
  pub granularity : ℕ
  pub rows : ℕ

-- the types of the primary key's columns
abbrev pub primary_types : Schema → List ColType
primary_types schema = filter_map (slice_get (column_types schema)) schema.primary

-- of a part with keys of these types
abbrev pub key_shape : List ColType → ℕ → ℕ → KeyShape
key_shape types granularity rows = record { types = types; granularity = granularity; rows = rows }

-- of a table's part with this many rows
abbrev pub shape_of : Schema → ℕ → KeyShape
shape_of schema rows = key_shape (primary_types schema) schema.granularity rows

-- a value of each type, each number within its type's range
pub record IsKeyOf (types : List ColType) (key : Row) : Type 0 where
  pub typed : types_of key ≡ types
  pub fit : All FitsType key

-- how many granules a part has
abbrev pub granule_count : KeyShape → ℕ
granule_count shape = granules shape.granularity shape.rows

-- how many keys are kept: one for each granule, and one of the last row
abbrev pub key_count : KeyShape → ℕ
key_count shape = granule_count shape + min 1 shape.rows

-- the last granule has one row
abbrev pub ends_alone : KeyShape → Bool
ends_alone shape = nat_eq (shape.granularity * (granule_count shape - 1) + 1) shape.rows

-- keys that may be kept of a part's rows: this many, and where the last granule has one row its mark is the final mark
pub record AreMarkKeys (shape : KeyShape) (keys : List Row) : Type 0 where
  pub each : All (IsKeyOf shape.types) keys
  pub count_is : length keys ≡ key_count shape
  pub final : ends_alone shape ≡ true → slice_get keys (granule_count shape - 1) ≡ slice_get keys (granule_count shape)

-- the bytes are those of these keys
pub record IsPrimaryOf (shape : KeyShape) (bytes : List ℕ) (keys : List Row) : Type 0 where
  pub kept : AreMarkKeys shape keys
  pub spelled : bytes ≡ keys_bytes keys

-- a table whose parts have a primary.bin: with a primary key of its own columns, and granules of some rows
pub record HasMarks (schema : Schema) : Type 0 where
  pub some : 0 < length schema.primary
  pub own : All (λ place. place < length schema.columns) schema.primary
  pub granularity : 0 < schema.granularity

-- this many rows of the table, in any order, each number within its type's range
pub record ArePartRows (schema : Schema) (count : ℕ) (rows : List Row) : Type 0 where
  pub count_is : length rows ≡ count
  pub typed : AreRowsOf (column_types schema) rows
  pub fit : All (λ (row : Row). All FitsType row) rows
