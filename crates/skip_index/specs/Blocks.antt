-- What a skip index keeps of the rows of a part, and its bytes (docs/formats.md, "Skip indexes").
use Rattle.std.specs.Prelude.{◌≡◌, ◌≢◌, ℕ, ◌*◌, ◌<◌, ◌^◌, false, List, [], ◌++◌, Option, Some, None, flat_map, length, map, slice_index_or}
use Rattle.std.specs.Int.{w32, to_le_bytes}
use Rattle.mt_values.specs.declared.schema.IndexKind.{IndexKind}
use Rattle.mt_values.specs.declared.schema.IndexKind.TheVariants as kind
use Rattle.mt_values.specs.declared.schema.Schema.{Schema}
use Rattle.mt_values.specs.declared.schema.SkipIndex.{SkipIndex}
use Rattle.mt_values.specs.declared.value.Value.{Value}
use Rattle.mt_values.specs.ColumnBytes.{column_bytes, value_bytes}
use Rattle.mt_values.specs.Granules.{granules}
use Rattle.mt_values.specs.Grid.{column_of}
use Rattle.mt_values.specs.Schemas.{is_large}
use Rattle.mt_values.specs.Values.{Row}
use Rattle.predicate.specs.declared.extent.Known.{Known}
use Rattle.predicate.specs.declared.extent.Known.TheVariants as known
pub use Rattle.predicate.specs.Indexes.{blocks_of, distinct_of, greater, kept_of, lesser, most_kept, range_of, same_value, set_of, with_new}
use Rattle.skip_index.specs.declared.index.Index.{Index}

-- stands where a table has no skip index at a place (docs/formats.md, "Skip indexes")
abbrev pub no_index : SkipIndex
no_index = record { name = []; column = 0; kind = kind.MinMax; granularity = 1 }

-- the skip index of a table at a place, from 0 (docs/formats.md, "Skip indexes")
abbrev pub index_at : Schema → ℕ → SkipIndex
index_at schema place = slice_index_or schema.indexes place no_index

-- what is kept of a skip index over rows with granules of this many (docs/formats.md, "Skip indexes")
abbrev pub index_over : SkipIndex → ℕ → List Row → Index
index_over i granularity rows = record {
  column = i.column;
  span = i.granularity;
  granules = granules granularity (length rows);
  blocks = map (kept_of i.kind) (blocks_of (granularity * i.granularity) (column_of i.column rows));
}

-- what is kept of the table's skip index at a place, of the rows of a part in their order (docs/formats.md, "Skip indexes")
abbrev pub index_of : Schema → ℕ → List Row → Index
index_of schema place rows = index_over (index_at schema place) schema.granularity rows

-- a list that is parted into whole granules (docs/formats.md, "Skip indexes")
pub record AreWhole {X : Type 0} (granularity : ℕ) (xs : List X) : Type 0 where
  pub count : ℕ
  pub length_is : length xs ≡ granularity * count

-- what is kept of the values that a block has so far, where it has begun (docs/formats.md, "Skip indexes")
abbrev pub IsBegun : IndexKind → List Value → Option Known → Type 0
IsBegun kind values None = values ≡ []
IsBegun kind values (Some begun) = (values ≢ []) × (begun ≡ kept_of kind values)

-- the bytes of a block: its least and its greatest value, or how many values are kept and then these; 0 where none is (docs/formats.md, "Skip indexes")
abbrev pub known_bytes : Known → List ℕ
known_bytes (known.Range lo hi) = value_bytes lo ++ value_bytes hi
known_bytes (known.List vs) = to_le_bytes w32 (length vs) ++ column_bytes vs
known_bytes known.Unknown = to_le_bytes w32 0

-- the bytes of blocks, in order (docs/formats.md, "Skip indexes")
abbrev pub blocks_bytes : List Known → List ℕ
blocks_bytes blocks = flat_map known_bytes blocks

-- the bytes of a skip index (docs/formats.md, "Skip indexes")
abbrev pub index_bytes : Index → List ℕ
index_bytes index = blocks_bytes index.blocks

-- a u32 counts the values that are kept of a block (docs/formats.md, "Skip indexes")
abbrev pub IsCounted : Known → Type 0
IsCounted (known.Range lo hi) = Unit {0}
IsCounted (known.List vs) = length vs < 2 ^ 32
IsCounted known.Unknown = Unit {0}

-- a table whose parts have a file of the skip index at a place: of a column of its own, with blocks of some granules of some rows, and of a set no more values than a u32 counts (docs/formats.md, "Skip indexes")
pub record HasIndex (schema : Schema) (place : ℕ) : Type 0 where
  pub there : place < length schema.indexes
  pub own : (index_at schema place).column < length schema.columns
  pub span : 0 < (index_at schema place).granularity
  pub few : is_large (index_at schema place).kind ≡ false
  pub granularity : 0 < schema.granularity
