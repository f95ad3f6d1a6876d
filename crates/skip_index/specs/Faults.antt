-- Where bytes that are no file of a skip index go wrong (docs/formats.md, "Skip indexes").
use Rattle.std.specs.Prelude.{◌≡◌, ◌≢◌, ℕ, ◌+◌, ◌<◌, ◌^◌, ◌⊎◌, false, List, [], ◌++◌, length, ⊤}
use Rattle.std.specs.Int.{w32, to_le_bytes}
use Rattle.std.specs.List.{list_any}
use Rattle.column_file.specs.byte_numbers.declared.faults.FormatFault.{FormatFault}
use Rattle.column_file.specs.byte_numbers.declared.faults.FormatFault.TheVariants.{NoMemory, Malformed}
use Rattle.mt_values.specs.declared.schema.IndexKind.{IndexKind}
use Rattle.mt_values.specs.declared.schema.IndexKind.TheVariants as kind
use Rattle.mt_values.specs.declared.value.ColType.{ColType}
use Rattle.mt_values.specs.declared.value.Value.{Value}
use Rattle.mt_values.specs.ColumnBytes.{column_bytes, value_bytes}
use Rattle.predicate.specs.declared.extent.Known.{Known}
use Rattle.column_file.specs.Faults.{NoneBegins}
use Rattle.column_file.specs.Spellings.{IsOfType}
use Rattle.skip_index.specs.declared.shapes.BlockShape.{BlockShape}
use Rattle.skip_index.specs.declared.shapes.IndexShape.{IndexShape}
use Rattle.skip_index.specs.Blocks.{blocks_bytes, same_value}
use Rattle.skip_index.specs.Files.{AreDistinctOf, AreFirstBlocks, MayCount, MayEnd, block_count, block_shape}

-- the bytes begin with no greatest value that may come after this least one
abbrev pub NoEndFollows : BlockShape → Value → List ℕ → Type 0
NoEndFollows block least bytes = (v : Value) (left : List ℕ) → IsOfType block.col_type v → MayEnd block.rows least v → bytes ≡ value_bytes v ++ left → ⊥

-- the bytes, which begin at a place of others, go on with a least value, and at this place with no greatest one
pub record IsEndStuckAt (block : BlockShape) (at : ℕ) (bytes : List ℕ) (place : ℕ) : Type 0 where
  pub least : Value
  pub rest : List ℕ
  pub typed : IsOfType block.col_type least
  pub parted : bytes ≡ value_bytes least ++ rest
  pub place_is : place ≡ at + length (value_bytes least)
  pub stuck : NoEndFollows block least rest

-- the bytes, which begin at a place of others, go wrong at this place as the least and the greatest value of a block
abbrev pub IsRangeStuckAt : BlockShape → ℕ → List ℕ → ℕ → Type 0
IsRangeStuckAt block at bytes place = ((place ≡ at) × NoneBegins block.col_type bytes) ⊎ IsEndStuckAt block at bytes place

-- the bytes begin with no number of values that a block may tell
abbrev pub NoCountBegins : BlockShape → ℕ → List ℕ → Type 0
NoCountBegins block limit bytes = (n : ℕ) (left : List ℕ) → n < 2 ^ 32 → MayCount block limit n → bytes ≡ to_le_bytes w32 n ++ left → ⊥

-- the bytes begin with no value of the type that is none of these
abbrev pub NoNewFollows : ColType → List Value → List ℕ → Type 0
NoNewFollows t begun bytes = (v : Value) (left : List ℕ) → IsOfType t v → list_any (same_value v) begun ≡ false → bytes ≡ value_bytes v ++ left → ⊥

-- the bytes, which begin at a place of others, go on with a few of so many distinct values, and at this place with no further one
pub record AreValuesStuckAt (t : ColType) (count at : ℕ) (bytes : List ℕ) (place : ℕ) : Type 0 where
  pub begun : List Value
  pub rest : List ℕ
  pub few : length begun < count
  pub sound : AreDistinctOf t begun
  pub parted : bytes ≡ column_bytes begun ++ rest
  pub place_is : place ≡ at + length (column_bytes begun)
  pub stuck : NoNewFollows t begun rest

-- the bytes, which begin at a place of others, go on with a number of values that a block may tell, and at this place go wrong in these
pub record AreCountedStuckAt (block : BlockShape) (limit at : ℕ) (bytes : List ℕ) (place : ℕ) : Type 0 where
  pub count : ℕ
  pub rest : List ℕ
  pub fits : count < 2 ^ 32
  pub counted : MayCount block limit count
  pub parted : bytes ≡ to_le_bytes w32 count ++ rest
  pub stuck : AreValuesStuckAt block.col_type count (at + 4) rest place

-- the bytes, which begin at a place of others, go wrong at this place as the distinct values of a block
abbrev pub IsSetStuckAt : BlockShape → ℕ → ℕ → List ℕ → ℕ → Type 0
IsSetStuckAt block limit at bytes place = ((place ≡ at) × NoCountBegins block limit bytes) ⊎ AreCountedStuckAt block limit at bytes place

-- the bytes, which begin at a place of others, go wrong at this place as what is kept of a block
abbrev pub IsBlockStuckAt : IndexKind → BlockShape → ℕ → List ℕ → ℕ → Type 0
IsBlockStuckAt kind.MinMax block at bytes place = IsRangeStuckAt block at bytes place
IsBlockStuckAt (kind.Set limit) block at bytes place = IsSetStuckAt block limit at bytes place

-- the bytes after some blocks go wrong at the place: in the next block, or after the last
abbrev pub BlocksGoOnWrong : IndexShape → List Known → List ℕ → ℕ → Type 0
BlocksGoOnWrong shape blocks rest place =
    ((length blocks < block_count shape) × IsBlockStuckAt shape.kind (block_shape shape (length blocks)) (length (blocks_bytes blocks)) rest place) ⊎ ((length blocks ≡ block_count shape) × (place ≡ length (blocks_bytes blocks)) × (rest ≢ []))

-- the bytes begin with some blocks, and then go wrong at the place
pub record IsIndexFault (shape : IndexShape) (bytes : List ℕ) (place : ℕ) : Type 0 where
  pub blocks : List Known
  pub rest : List ℕ
  pub each : AreFirstBlocks shape blocks
  pub parted : bytes ≡ blocks_bytes blocks ++ rest
  pub wrong : BlocksGoOnWrong shape blocks rest place

-- the error is out of memory, or the place at which the least and the greatest value of a block go wrong
abbrev pub ExplainsRange : BlockShape → ℕ → List ℕ → FormatFault → Type 0
ExplainsRange block at bytes NoMemory = ⊤
ExplainsRange block at bytes (Malformed place) = IsRangeStuckAt block at bytes place

-- the error is out of memory, or the place at which so many distinct values go wrong
abbrev pub ExplainsValues : ColType → ℕ → ℕ → List ℕ → FormatFault → Type 0
ExplainsValues t count at bytes NoMemory = ⊤
ExplainsValues t count at bytes (Malformed place) = AreValuesStuckAt t count at bytes place

-- the error is out of memory, or the place at which the distinct values of a block go wrong
abbrev pub ExplainsSet : BlockShape → ℕ → ℕ → List ℕ → FormatFault → Type 0
ExplainsSet block limit at bytes NoMemory = ⊤
ExplainsSet block limit at bytes (Malformed place) = IsSetStuckAt block limit at bytes place

-- the error is out of memory, or the place at which what is kept of a block goes wrong
abbrev pub ExplainsBlock : IndexKind → BlockShape → ℕ → List ℕ → FormatFault → Type 0
ExplainsBlock kind.MinMax block at bytes error = ExplainsRange block at bytes error
ExplainsBlock (kind.Set limit) block at bytes error = ExplainsSet block limit at bytes error

-- the error is out of memory, or the first fault of the bytes
abbrev pub ExplainsIndex : IndexShape → List ℕ → FormatFault → Type 0
ExplainsIndex shape bytes NoMemory = ⊤
ExplainsIndex shape bytes (Malformed place) = IsIndexFault shape bytes place
