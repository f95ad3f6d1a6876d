-- The files of a part (docs/formats.md, "Parts").
use Rattle.std.specs.Prelude.{◌≡◌, ℕ, ◌<◌, true, List, [], ◌∷◌, ◌++◌, length, map, All, ⊤}
use Rattle.std.specs.List.{range_with_len}
use Rattle.sha2.specs.Sha256.{sha256}
use Rattle.mt_values.specs.declared.manifest.FileMark.{FileMark}
use Rattle.mt_values.specs.declared.manifest.Manifest.{Manifest}
use Rattle.mt_base.specs.declared.name.FileId.{FileId}
use Rattle.mt_base.specs.declared.name.FileId.TheVariants as file
use Rattle.mt_values.specs.declared.schema.Schema.{Schema}
use Rattle.mt_values.specs.Values.{Row}
use Rattle.mt_values.specs.Grid.{column_of}
use Rattle.mt_values.specs.ColumnBytes.{column_bytes}
use Rattle.mt_values.specs.Manifests.{manifest_bytes}
use Rattle.mt_outside.specs.Files.{Files, bytes_of}
use Rattle.primary_marks.specs.column_file.Marks.{granule_places, mark_keys, marks_bytes, primary_bytes}
use Rattle.skip_index.specs.declared.index.Index.{Index}
use Rattle.skip_index.specs.Blocks.{HasIndex, index_bytes, index_of}
use Rattle.part_writer.specs.declared.loaded.Loaded.{Loaded}

-- ---- which files

-- the files of the skip indexes, in order
abbrev pub skip_ids : Schema → List FileId
skip_ids schema = map file.Skip (range_with_len 0 (length schema.indexes))

-- the files that are read where a part is opened: the two of its granules, and those of the skip indexes
abbrev pub opened_ids : Schema → List FileId
opened_ids schema = file.Marks ∷ file.Primary ∷ skip_ids schema

-- the files of the columns, in order
abbrev pub column_ids : Schema → List FileId
column_ids schema = map file.Column (range_with_len 0 (length schema.columns))

-- the files of which a part's manifest has marks, in the order of the format: those that are read where it is opened, and those of the columns
abbrev pub content_ids : Schema → List FileId
content_ids schema = opened_ids schema ++ column_ids schema

-- the file is one of these
abbrev pub IsContent : Schema → FileId → Type 0
IsContent schema file.Marks = ⊤
IsContent schema file.Primary = ⊤
IsContent schema (file.Skip n) = n < length schema.indexes
IsContent schema (file.Column n) = n < length schema.columns
IsContent schema f = ⊥

-- a table whose parts have a file of each of its skip indexes
abbrev pub HasIndexes : Schema → Type 0
HasIndexes schema = (n : ℕ) → n < length schema.indexes → HasIndex schema n

-- ---- what they have in them

-- what the skip indexes of a table keep of rows, in order
abbrev pub indexes_of : Schema → List Row → List Index
indexes_of schema rows = map (λ n. index_of schema n rows) (range_with_len 0 (length schema.indexes))

-- The bytes of such a file, by its kind: where granules begin in the files of columns, the primary keys of granules, what a skip index keeps
-- of its blocks, and of a column its values, row by row.
abbrev pub content_bytes : Schema → List Row → FileId → List ℕ
content_bytes schema rows file.Marks = marks_bytes schema.granularity (length schema.columns) rows
content_bytes schema rows file.Primary = primary_bytes schema.primary schema.granularity rows
content_bytes schema rows (file.Skip n) = index_bytes (index_of schema n rows)
content_bytes schema rows (file.Column n) = column_bytes (column_of n rows)
content_bytes schema rows f = []

abbrev pub with_bytes : Schema → List Row → FileId → FileId × List ℕ
with_bytes schema rows f = (f, content_bytes schema rows f)

-- the files of which the manifest of a part with these rows has marks, in the order of the format, with their bytes
abbrev pub content_of_part : Schema → List Row → List (FileId × List ℕ)
content_of_part schema rows = map (with_bytes schema rows) (content_ids schema)

abbrev pub mark_of : List ℕ → FileMark
mark_of bytes = record { size = length bytes; digest = sha256 bytes }

-- the marks of files, in their order
abbrev pub marks_of : List (FileId × List ℕ) → List FileMark
marks_of files = map (λ (f : FileId × List ℕ). mark_of f.1) files

-- what the manifest of a part with these rows says
abbrev pub manifest_of : Schema → List Row → Manifest
manifest_of schema rows = record { rows = length rows; files = marks_of (content_of_part schema rows) }

-- what is kept in memory of a part with these rows
abbrev pub loaded_of : Schema → List Row → Loaded
loaded_of schema rows =
    record {
      schema = schema;
      manifest = manifest_of schema rows;
      marks = mark_keys schema.primary schema.granularity rows;
      places = granule_places schema.granularity (length schema.columns) rows;
      indexes = indexes_of schema rows;
    }

-- the files of a part with these rows, with their bytes: those of which the manifest has marks, and the manifest
abbrev pub files_of_part : Schema → List Row → List (FileId × List ℕ)
files_of_part schema rows = content_of_part schema rows ++ (file.Manifest, manifest_bytes sha256 (manifest_of schema rows)) ∷ []

-- ---- in a folder

-- the files, each synced
abbrev pub all_synced : List (FileId × List ℕ) → Files
all_synced files = map (λ (f : FileId × List ℕ). record { file = f.0; bytes = f.1; synced = true }) files

-- the folder's files have these bytes
abbrev pub HasBytes : Files → List (FileId × List ℕ) → Type 0
HasBytes folder files = All (λ (f : FileId × List ℕ). bytes_of f.0 folder ≡ f.1) files
