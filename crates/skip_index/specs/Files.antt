-- Bytes that are the file of a skip index (docs/formats.md, "Skip indexes").
use Rattle.std.specs.Prelude.{◌≡◌, ℕ, ◌-◌, ◌*◌, ◌<◌, ◌≤◌, ◌^◌, ◌⊎◌, Bool, IsTrue, nat_lt, true, List, All, Option, None, Some, length, min, slice_get, slice_index_or}
use Rattle.std.specs.Int.{div_ceil}
use Rattle.std.specs.Option.{option_map_or}
use Rattle.std.specs.Ordering.{is_le}
use Rattle.mt_values.specs.declared.schema.IndexKind.{IndexKind}
use Rattle.mt_values.specs.declared.schema.IndexKind.TheVariants as kind
use Rattle.mt_values.specs.declared.schema.Schema.{Schema}
use Rattle.mt_values.specs.declared.schema.SkipIndex.{SkipIndex}
use Rattle.mt_values.specs.declared.value.ColType.{ColType}
use Rattle.mt_values.specs.declared.value.ColType.TheVariants as type
use Rattle.mt_values.specs.declared.value.Value.{Value}
use Rattle.mt_values.specs.ColumnBytes.{column_bytes}
use Rattle.mt_values.specs.Granules.{granules}
use Rattle.mt_values.specs.Order.{value_cmp}
use Rattle.mt_values.specs.Schemas.{column_types}
use Rattle.predicate.specs.declared.extent.Known.{Known}
use Rattle.predicate.specs.declared.extent.Known.TheVariants as known
use Rattle.column_file.specs.Spellings.{IsOfType}
use Rattle.column_file.specs.byte_numbers.Fronts.{Begins}
use Rattle.skip_index.specs.declared.index.Index.{Index}
use Rattle.skip_index.specs.declared.shapes.BlockShape.{BlockShape}
use Rattle.skip_index.specs.declared.shapes.IndexShape.{IndexShape}
use Rattle.skip_index.specs.Blocks.{blocks_bytes, distinct_of, index_at, most_kept}

-- how many values a type has; of texts there is no last one (docs/definitions.md, "Values")
abbrev pub values_of_type : ColType → Option ℕ
values_of_type type.UInt8 = Some (2 ^ 8)
values_of_type type.Int8 = Some (2 ^ 8)
values_of_type type.UInt16 = Some (2 ^ 16)
values_of_type type.Int16 = Some (2 ^ 16)
values_of_type type.UInt32 = Some (2 ^ 32)
values_of_type type.Int32 = Some (2 ^ 32)
values_of_type type.UInt64 = Some (2 ^ 64)
values_of_type type.Int64 = Some (2 ^ 64)
values_of_type type.Text = None

-- a type has more than this many values
abbrev pub has_more : ColType → ℕ → Bool
has_more t n = option_map_or (λ count. nat_lt n count) (values_of_type t) true

-- a value may be the greatest of so many rows of which this is the least: no lesser one, and the same one of a single row
abbrev pub MayEnd : ℕ → Value → Value → Type 0
MayEnd rows lo hi = IsTrue (is_le (value_cmp lo hi)) × (rows ≡ 1 → lo ≡ hi)

-- values of a type, none of them twice
pub record AreDistinctOf (t : ColType) (values : List Value) : Type 0 where
  pub typed : All (IsOfType t) values
  pub distinct : distinct_of values ≡ values

-- the bytes begin with these values, this many of a type, none of them twice; their spelling has this size
pub record AreReadAt (t : ColType) (count : ℕ) (bytes : List ℕ) (values : List Value) (size : ℕ) : Type 0 where
  pub count_is : length values ≡ count
  pub sound : AreDistinctOf t values
  pub begins : Begins (column_bytes values) size bytes

-- a set may keep no value of a block: the block can have more distinct ones than it keeps
abbrev pub MayKeepNone : BlockShape → ℕ → Type 0
MayKeepNone block limit = (most_kept limit < block.rows) × IsTrue (has_more block.col_type (most_kept limit))

-- a set may keep this many values of a block: no more than it keeps of one, than the block has rows, nor than the type has values
abbrev pub MayKeepSome : BlockShape → ℕ → ℕ → Type 0
MayKeepSome block limit count = (0 < count) × (count ≤ most_kept limit) × (count ≤ block.rows) × IsTrue (has_more block.col_type (count - 1))

-- how many values a block may tell: 0 where none is kept
abbrev pub MayCount : BlockShape → ℕ → ℕ → Type 0
MayCount block limit count = ((count ≡ 0) × MayKeepNone block limit) ⊎ MayKeepSome block limit count

-- what may be kept of a block with this many rows of a type
abbrev pub MayKeep : IndexKind → BlockShape → Known → Type 0
MayKeep kind.MinMax block (known.Range lo hi) = IsOfType block.col_type lo × IsOfType block.col_type hi × MayEnd block.rows lo hi
MayKeep (kind.Set limit) block (known.List vs) = MayKeepSome block limit (length vs) × AreDistinctOf block.col_type vs
MayKeep (kind.Set limit) block known.Unknown = MayKeepNone block limit
MayKeep other block k = ⊥

-- the type of the table's column at a place; past the last there is none, and that of texts stands
abbrev pub type_at : Schema → ℕ → ColType
type_at schema place = slice_index_or (column_types schema) place type.Text

-- the file of a skip index of the table, of a part with this many rows
abbrev pub shape_over : Schema → SkipIndex → ℕ → IndexShape
shape_over schema i rows = record {
  column = i.column;
  col_type = type_at schema i.column;
  kind = i.kind;
  span = i.granularity;
  granularity = schema.granularity;
  rows = rows;
}

-- the file of the table's skip index at a place, of a part with this many rows
abbrev pub shape_of : Schema → ℕ → ℕ → IndexShape
shape_of schema place rows = shape_over schema (index_at schema place) rows

-- how many rows a block has; the last may have fewer
abbrev pub block_size : IndexShape → ℕ
block_size shape = shape.granularity * shape.span

-- how many blocks the rows are parted into
abbrev pub block_count : IndexShape → ℕ
block_count shape = div_ceil shape.rows (block_size shape)

-- a block, counted from 0
abbrev pub block_shape : IndexShape → ℕ → BlockShape
block_shape shape block = record { col_type = shape.col_type; rows = min (block_size shape) (shape.rows - block_size shape * block) }

-- what may be kept of the first few blocks
abbrev pub AreFirstBlocks : IndexShape → List Known → Type 0
AreFirstBlocks shape blocks = (block : ℕ) (k : Known) → slice_get blocks block ≡ Some k → MayKeep shape.kind (block_shape shape block) k

-- what may be kept of all blocks
pub record AreBlocksOf (shape : IndexShape) (blocks : List Known) : Type 0 where
  pub each : AreFirstBlocks shape blocks
  pub count_is : length blocks ≡ block_count shape

-- a skip index with these blocks, of a part with so many rows
abbrev pub index_with : IndexShape → List Known → Index
index_with shape blocks = record { column = shape.column; span = shape.span; granules = granules shape.granularity shape.rows; blocks = blocks }

-- the bytes are those of this skip index, of a part with so many rows
pub record IsIndexFile (shape : IndexShape) (bytes : List ℕ) (index : Index) : Type 0 where
  pub kept : AreBlocksOf shape index.blocks
  pub whole : index ≡ index_with shape index.blocks
  pub spelled : bytes ≡ blocks_bytes index.blocks
