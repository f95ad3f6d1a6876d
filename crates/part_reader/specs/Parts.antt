-- Which rows the folder of a part and what is kept of it hold (docs/formats.md, "Parts").
use Rattle.std.specs.Prelude.{◌≡◌, ℕ, List, [], ◌∷◌, map, All, Option, Some}
use Rattle.mt_base.specs.declared.name.FileId.{FileId}
use Rattle.mt_base.specs.declared.name.FileId.TheVariants as file
use Rattle.mt_values.specs.declared.schema.Schema.{Schema}
use Rattle.mt_values.specs.Grid.{AreRowsOf, Cells, column_of}
use Rattle.mt_values.specs.Schemas.{column_types}
use Rattle.mt_values.specs.Values.{FitsType, Row}
use Rattle.mt_outside.specs.Files.{Files, bytes_of}
use Rattle.part_damage.specs.column_file.Spellings.{with_values}
use Rattle.part_damage.specs.digest_file.Spellings.{IsManifestOf}
use Rattle.part_damage.specs.part_writer.PartFiles.{HasBytes, IsContent, content_ids, files_of_part, loaded_of, manifest_of, with_bytes}
use Rattle.part_reader.specs.declared.reading.Part.{Part}

-- a folder holds rows of a table: each of its files has the bytes that are written of them, and the manifest can be read back
pub record FolderHolds (schema : Schema) (rows : List Row) (files : Files) : Type 0 where
  pub held : HasBytes files (files_of_part schema rows)
  pub readable : IsManifestOf (bytes_of file.Manifest files) (manifest_of schema rows)
  pub typed : AreRowsOf (column_types schema) rows
  pub encodable : All (λ (row : Row). All FitsType row) rows

-- rows of a table: the folder tells that these of its files are theirs, and so is what is kept in memory
pub record HoldsAt {F : Type 0} (files_of : F → Option Files) (schema : Schema) (part : Part F) (ids : List FileId) (rows : List Row) : Type 0 where
  pub files : Files
  pub files_are : files_of part.dir ≡ Some files
  pub within : All (IsContent schema) ids
  pub held : HasBytes files (map (with_bytes schema rows) ids)
  pub loaded_is : part.loaded ≡ loaded_of schema rows
  pub typed : AreRowsOf (column_types schema) rows
  pub encodable : All (λ (row : Row). All FitsType row) rows

-- a part holds these rows: so it is with all files of which its manifest has marks
abbrev pub PartHolds : {F : Type 0} → (F → Option Files) → Schema → Part F → List Row → Type 0
PartHolds files_of schema part rows = HoldsAt files_of schema part (content_ids schema) rows

-- each column with the values that the rows have at its place, after its own
abbrev pub with_columns : List Row → List ℕ → List Cells → List Cells
with_columns rows [] columns = []
with_columns rows (place ∷ places) [] = []
with_columns rows (place ∷ places) (column ∷ columns) = with_values column (column_of place rows) ∷ with_columns rows places columns
