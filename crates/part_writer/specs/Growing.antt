-- A part that is written granule by granule (docs/formats.md, "Parts").
use Rattle.std.specs.Prelude.{◌≡◌, ℕ, ◌+◌, ◌<◌, ◌≤◌, ◌^◌, List, [], ◌∷◌, ◌++◌, length, map, slice_get, slice_index_or, All, Some}
use Rattle.std.specs.List.{range_with_len}
use Rattle.std.specs.Option.{ForSome}
use Rattle.sha2.specs.Hashers.{Holds256}
use Rattle.mt_base.specs.declared.name.FileId.{FileId}
use Rattle.mt_base.specs.declared.name.FileId.TheVariants as file
use Rattle.mt_outside.specs.Files.{bytes_of}
use Rattle.mt_values.specs.declared.schema.Schema.{Schema}
use Rattle.mt_values.specs.declared.value.ColType.{ColType}
use Rattle.mt_values.specs.declared.value.ColType.TheVariants as type
use Rattle.mt_values.specs.declared.value.Value.{Value}
use Rattle.mt_values.specs.ColumnBytes.{column_bytes}
use Rattle.mt_values.specs.Granules.{granule_starts, with_final}
use Rattle.mt_values.specs.Grid.{AreRowsOf, Cells, Grid, column_of}
use Rattle.mt_values.specs.Schemas.{column_types}
use Rattle.mt_values.specs.Values.{FitsType, Row}
use Rattle.primary_marks.specs.column_file.Granules.{marks_of}
use Rattle.primary_marks.specs.Keys.{HasMarks}
use Rattle.skip_index.specs.Blocks.{AreWhole}
use Rattle.stage_dir.specs.Stages.{Filling, IsIntact}
use Rattle.part_writer.specs.declared.column_out.ColumnOut.{ColumnOut}
use Rattle.part_writer.specs.declared.grown.Grown.{Grown}
use Rattle.part_writer.specs.PartFiles.{HasIndexes, IsContent, content_ids, indexes_of}

-- ---- columns that get rows

-- the type at a place, and another where there is none
abbrev pub type_at : List ColType → ℕ → ColType
type_at types place = slice_index_or types place type.UInt8

-- the columns of rows at these places
abbrev pub columns_of : List ColType → List ℕ → List Row → List Cells
columns_of types places rows = map (λ place. record { col_type = type_at types place; values = column_of place rows }) places

-- a column with the values at its end that rows have at a place
abbrev pub with_column : ℕ → List Row → Cells → Cells
with_column place rows column = record column { values = column.values ++ column_of place rows }

-- columns with the values at their ends that rows have at these places, a column at each
abbrev pub with_rows : List Row → List ℕ → List Cells → List Cells
with_rows rows [] columns = columns
with_rows rows (p ∷ ps) [] = []
with_rows rows (p ∷ ps) (c ∷ cs) = with_column p rows c ∷ with_rows rows ps cs

-- ---- files that grow

-- what is kept of the file of a column with these values: the digest of its bytes, and where its granules begin
pub record HasGrown (granularity : ℕ) (values : List Value) (column : ColumnOut) : Type 0 where
  pub some : 0 < granularity
  pub digest : Holds256 column.digest (column_bytes values)
  pub places : column.places ≡ marks_of granularity values

-- what is kept of a file of whole granules is kept of it with these values at its end
abbrev pub Grows : ℕ → List Value → ColumnOut → ColumnOut → Type 0
Grows granularity more old new = (values : List Value) → AreWhole granularity values → HasGrown granularity values old → HasGrown granularity (values ++ more) new

-- the bytes of the files of a part's content while its rows are written: those of the columns have their values, and the others nothing yet
abbrev pub grown_bytes : List Row → FileId → List ℕ
grown_bytes rows (file.Column n) = column_bytes (column_of n rows)
grown_bytes rows f = []

-- the stage has the files of a part's content, with these bytes
pub record HasFiles (schema : Schema) (bytes : FileId → List ℕ) (filling : Filling) : Type 0 where
  pub names : filling.names ≡ content_ids schema
  pub intact : IsIntact filling
  pub files : ForSome filling.files (λ files. (f : FileId) → IsContent schema f → bytes_of f files ≡ bytes f)

-- ---- the part

-- what contracts see of a part that is being written: its stage, and what is kept of its rows
pub record Growing : Type 0 where
  pub stage : Filling
  pub grown : Grown

-- a table whose parts can be written: they have a primary.bin, the files of its skip indexes, and no more files than a u32 counts
pub record HasParts (schema : Schema) : Type 0 where
  pub marks : HasMarks schema
  pub indexes : HasIndexes schema
  pub few : length (content_ids schema) < 2 ^ 32

-- what is kept of each column's file
pub record KeepsColumns (schema : Schema) (rows : List Row) (columns : List ColumnOut) : Type 0 where
  pub count_is : length columns ≡ length schema.columns
  pub each : (n : ℕ) (column : ColumnOut) → slice_get columns n ≡ Some column → HasGrown schema.granularity (column_of n rows) column

-- of these rows is kept what is kept of rows that are written; the primary keys of some are kept, and others are pending
pub record KeepsRows (grown : Grown) (written keyed pending : List Row) : Type 0 where
  pub table : HasParts grown.schema
  pub typed : AreRowsOf (column_types grown.schema) written
  pub typed_pending : AreRowsOf (column_types grown.schema) pending
  pub rows : grown.rows ≡ length written
  pub columns : KeepsColumns grown.schema written grown.columns.items
  pub keys : grown.keys.items ≡ columns_of (column_types grown.schema) grown.schema.primary keyed
  pub indexes : grown.indexes.items ≡ indexes_of grown.schema written
  pub pending_are : grown.pending.items ≡ columns_of (column_types grown.schema) (range_with_len 0 (length grown.schema.columns)) pending
  pub count : grown.count ≡ length pending
  pub fit : All (λ (row : Row). All FitsType row) written

-- what is kept is that of some rows
pub record KeepsSome (grown : Grown) : Type 0 where
  pub written : List Row
  pub keyed : List Row
  pub pending : List Row
  pub keeps : KeepsRows grown written keyed pending

-- these rows are written, and none is pending
pub record HasWritten (stage : Filling) (grown : Grown) (written keyed : List Row) : Type 0 where
  pub files : HasFiles grown.schema (grown_bytes written) stage
  pub keeps : KeepsRows grown written keyed []

-- all rows of a part are written, and the primary keys that are kept of it
pub record HasAll (stage : Filling) (grown : Grown) : Type 0 where
  pub rows : List Row
  pub has : HasWritten stage grown rows (with_final grown.schema.granularity rows)

-- A part that has these rows so far: those of its whole granules are written, with their files and what is kept of them, and those after them are
-- pending, no more than a granule, the last row among them.
pub record HasRows (out : Growing) (rows : List Row) : Type 0 where
  pub written : List Row
  pub pending : List Row
  pub rows_are : rows ≡ written ++ pending
  pub whole : AreWhole out.grown.schema.granularity written
  pub few : length pending ≤ out.grown.schema.granularity
  pub last : pending ≡ [] → rows ≡ []
  pub files : HasFiles out.grown.schema (grown_bytes written) out.stage
  pub keeps : KeepsRows out.grown written (granule_starts out.grown.schema.granularity written) pending

-- a part that no refused call has left: it has some rows
pub record IsWhole (out : Growing) : Type 0 where
  pub rows : List Row
  pub has : HasRows out rows

-- a part that has these rows, and takes this many more before a granule is written; its last row may be written
pub record TakesRows (out : Growing) (rows : List Row) (room : ℕ) : Type 0 where
  pub written : List Row
  pub pending : List Row
  pub rows_are : rows ≡ written ++ pending
  pub whole : AreWhole out.grown.schema.granularity written
  pub few : length pending + room ≤ out.grown.schema.granularity
  pub files : HasFiles out.grown.schema (grown_bytes written) out.stage
  pub keeps : KeepsRows out.grown written (granule_starts out.grown.schema.granularity written) pending

-- all these rows are written; the block has those of the last granule, which are so many, and no other
pub record HasEnded (out : Growing) (rows : List Row) (count : ℕ) (block : Grid) : Type 0 where
  pub before : List Row
  pub rows_are : rows ≡ before ++ block.rows
  pub whole : AreWhole out.grown.schema.granularity before
  pub types : block.types ≡ column_types out.grown.schema
  pub count_is : length block.rows ≡ count
  pub has : HasWritten out.stage out.grown rows (granule_starts out.grown.schema.granularity rows)
