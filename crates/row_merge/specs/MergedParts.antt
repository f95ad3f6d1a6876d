-- Parts that are merged, and the part that is sealed of them (docs/engines.md, "Merges").
use Rattle.std.specs.Prelude.{◌≡◌, ◌⊎◌, ℕ, ◌+◌, ◌<◌, min, Bool, List, [], ◌∷◌, length, slice_get, Option, Some, Result, IfErr, IsErrAnd, ⊤}
use Rattle.std.specs.List.{AllZip, range_with_len}
use Rattle.mt_base.specs.declared.name.FileId.TheVariants as file
use Rattle.mt_base.specs.declared.partition.Partition.{Partition}
use Rattle.mt_values.specs.declared.schema.Schema.{Schema}
use Rattle.mt_values.specs.declared.value.ColType.{ColType}
use Rattle.mt_values.specs.Schemas.{column_types}
use Rattle.mt_values.specs.Values.{Row}
use Rattle.mt_outside.specs.Files.{Files}
use Rattle.part_history.specs.part_name.declared.part.PartName.{PartName}
use Rattle.part_reader.specs.part_writer.declared.loaded.Loaded.{Loaded}
use Rattle.part_reader.specs.part_writer.PartFiles.{loaded_of}
use Rattle.part_reader.specs.declared.reading.Part.{Part}
use Rattle.part_reader.specs.declared.reading.PartFault.{PartFault}
use Rattle.part_reader.specs.declared.reading.PartFault.TheVariants.{Fault, NoMemory, Damaged}
use Rattle.part_reader.specs.declared.reading.TheConstants.{NO_MARK}
use Rattle.part_reader.specs.Faults.{ExplainsAt}
use Rattle.part_reader.specs.Granules.{ExplainsChosen, ExplainsRun, PartColumn, chosen_of, column_in, rows_in}
use Rattle.part_reader.specs.Parts.{FolderHolds, PartHolds}
use Rattle.part_reader.specs.Readings.{lone}
use Rattle.part_set.specs.declared.kept.Kept.{Kept}
use Rattle.row_merge.specs.Merged.{IsMergedOf}

-- each part of a list holds the rows at its place (docs/formats.md, "Parts")
abbrev pub PartsHold : {F : Type 0} → (F → Option Files) → Schema → List (Kept (Part F)) → List (List Row) → Type 0
PartsHold {F} files_of schema parts rows = AllZip (λ (k : Kept (Part F)) (r : List Row). PartHolds files_of schema k.part r) parts rows

-- What was sealed of the rows of parts, where the stage told it: the files of what a merge leaves of them, and what is kept of it. It may be no row
-- (docs/engines.md, "Merges"; docs/formats.md, "Parts").
pub record IsSealedMerge (schema : Schema) (partition : Partition) (inputs : List (List Row)) (sealed : Option Files) (loaded : Loaded) : Type 0 where
  pub rows : List Row
  pub merged : IsMergedOf schema partition inputs rows
  pub files : Files
  pub sealed_are : sealed ≡ Some files
  pub holds : FolderHolds schema rows files
  pub loaded_is : loaded ≡ loaded_of schema rows

-- What was sealed, where the stage told it: the files of a part with some rows, and what is kept of it (docs/formats.md, "Parts").
pub record IsSealedPart (schema : Schema) (sealed : Option Files) (loaded : Loaded) : Type 0 where
  pub rows : List Row
  pub files : Files
  pub sealed_are : sealed ≡ Some files
  pub holds : FolderHolds schema rows files
  pub loaded_is : loaded ≡ loaded_of schema rows

-- the places of the columns of a table (docs/definitions.md, "Schemas")
abbrev pub column_places : Schema → List ℕ
column_places schema = range_with_len 0 (length schema.columns)

-- the columns of a part have the types of the table's, and its granules the same size
pub record HasShape (schema own : Schema) : Type 0 where
  pub types : column_types own ≡ column_types schema
  pub granularity : own.granularity ≡ schema.granularity

-- what is called the damage of a part of which another table's columns are kept
abbrev pub other_table : PartFault
other_table = Damaged file.Manifest 0 NO_MARK NO_MARK

-- of a part the columns of another table are kept
pub record IsOthers {F : Type 0} (schema : Schema) (part : Part F) (fault : PartFault) : Type 0 where
  pub other : HasShape schema part.loaded.schema → ⊥
  pub fault_is : fault ≡ other_table

-- a granule of a column was read that has some row, as one of this type
pub record ExplainsGranule (c : PartColumn) (t : ColType) (fault : PartFault) : Type 0 where
  pub granule : ℕ
  pub some : 0 < rows_in c.loaded (lone granule)
  pub explained : ExplainsRun c (lone granule) t fault

-- What a fault says of a part whose columns are read granule by granule, each as one of its type: damage is that of a granule whose bytes are no spelling of its values
-- (docs/formats.md, "Parts").
abbrev pub ExplainsPart : {F : Type 0} → (F → Option Files) → Schema → Part F → PartFault → Type 0
ExplainsPart files_of schema part Fault = ⊤
ExplainsPart files_of schema part NoMemory = ⊤
ExplainsPart files_of schema part (Damaged f place wanted found) =
    IsOthers schema part (Damaged f place wanted found) ⊎ ExplainsAt (λ number t. ExplainsGranule (column_in files_of part number) t) (column_types schema) (column_places schema) (Damaged f place wanted found)

-- what a fault says of one of the parts, by its name (docs/formats.md, "Parts")
pub record ExplainsMerge {F : Type 0} (files_of : F → Option Files) (schema : Schema) (parts : List (Kept (Part F))) (e : PartName × PartFault) : Type 0 where
  pub at : ℕ
  pub kept : Kept (Part F)
  pub kept_is : slice_get parts at ≡ Some kept
  pub name_is : e.0 ≡ kept.name
  pub explained : ExplainsPart files_of schema kept.part e.1

-- What a call that reads parts says where it fails, of one of them by its name, and what it leaves of the counts of faults, by whether it answers one
-- (docs/architecture.md, "Counts of faults").
pub record Fails {X : Type 0} (Says : PartName × PartFault → Type 0) (Leaves : Type 0 → Type 0) (result : Result X (PartName × PartFault)) : Type 0 where
  pub damaged : IfErr result Says
  pub leaves : Leaves (IsErrAnd result (λ e. e.1 ≡ Fault))

-- ---- first granules

-- how many rows the first granules of parts have together
abbrev pub first_rows : {F : Type 0} → ℕ → List (Kept (Part F)) → ℕ
first_rows granularity [] = 0
first_rows granularity (k ∷ parts) = min granularity k.part.loaded.manifest.rows + first_rows granularity parts

-- ---- chosen granules

-- the rows of each part's chosen granules
abbrev pub chosen_inputs : ℕ → List (List Bool) → List (List Row) → List (List Row)
chosen_inputs g (c ∷ chosen) (r ∷ rows) = chosen_of g c r ∷ chosen_inputs g chosen rows
chosen_inputs g chosen rows = []

-- what a fault says of a part of which all columns are read in the chosen granules (docs/formats.md, "Parts")
abbrev pub ExplainsWhole : {F : Type 0} → (F → Option Files) → Schema → Part F → List Bool → PartFault → Type 0
ExplainsWhole files_of schema part chosen fault = ExplainsAt (λ number t. ExplainsChosen (column_in files_of part number) chosen t) (column_types schema) (column_places schema) fault

-- what it says of one of the parts, by its name
pub record ExplainsWholes {F : Type 0} (files_of : F → Option Files) (schema : Schema) (parts : List (Kept (Part F))) (chosen : List (List Bool)) (e : PartName × PartFault) : Type 0 where
  pub at : ℕ
  pub kept : Kept (Part F)
  pub own : List Bool
  pub kept_is : slice_get parts at ≡ Some kept
  pub own_is : slice_get chosen at ≡ Some own
  pub name_is : e.0 ≡ kept.name
  pub explained : ExplainsWhole files_of schema kept.part own e.1
