-- Which granules of a part are read, and what its columns say of them (docs/formats.md, "Parts").
use Rattle.std.specs.Prelude.{◌≡◌, ℕ, ◌+◌, ◌-◌, ◌*◌, ◌≤◌, ◌⊎◌, min, Bool, true, List, ◌++◌, length, take, replicate, slice_get, slice_range, Option, Some, None, ⊤}
use Rattle.std.specs.List.{range_with_len}
use Rattle.std.specs.Option.{ForSome, option_and_then}
use Rattle.mt_base.specs.declared.name.FileId.TheVariants as file
use Rattle.mt_values.specs.declared.value.ColType.{ColType}
use Rattle.mt_values.specs.declared.value.Value.{Value}
use Rattle.mt_values.specs.Grid.{Cells}
pub use Rattle.mt_values.specs.Granules.{chosen_of}
use Rattle.mt_outside.specs.Files.{Files, bytes_of}
use Rattle.part_damage.specs.column_file.Granules.{marks_of}
use Rattle.part_damage.specs.column_file.Picks.{GainsWhere}
use Rattle.part_damage.specs.column_file.Spellings.{GainsAll, IsSpelling, with_values}
use Rattle.part_damage.specs.part_writer.declared.loaded.Loaded.{Loaded}
use Rattle.part_reader.specs.declared.files.Span.{Span}
use Rattle.part_reader.specs.declared.reading.Part.{Part}
use Rattle.part_reader.specs.declared.reading.PartFault.{PartFault}
use Rattle.part_reader.specs.declared.reading.PartFault.TheVariants.{Fault, NoMemory, Damaged}
use Rattle.part_reader.specs.declared.runs.Run.{Run}
use Rattle.part_reader.specs.Faults.{IsMisread, WantedValues, wanted_of}

-- ---- granules of a list

-- how many of so many items are in the chosen granules
abbrev pub chosen_count : ℕ → List Bool → ℕ → ℕ
chosen_count granularity chosen count = length (chosen_of granularity chosen (range_with_len 0 count))

-- granules of a run, all of them chosen, stand after those before it
pub record IsChosenRun (chosen : List Bool) (run : Run) : Type 0 where
  pub within : run.first + run.count ≤ length chosen
  pub all : take (run.first + run.count) chosen ≡ take run.first chosen ++ replicate run.count true

-- ---- a run of granules of a column

-- a column of a part: what the folder tells, what is kept of the part, and the column's number
pub record PartColumn : Type 0 where
  pub told : Option Files
  pub loaded : Loaded
  pub number : ℕ

abbrev pub column_in : {F : Type 0} → (F → Option Files) → Part F → ℕ → PartColumn
column_in files_of part number = record { told = files_of part.dir; loaded = part.loaded; number = number }

-- where a granule of a column begins in its file, by the places that are kept; after the last granule, where the file ends
abbrev pub place_of : List (List ℕ) → ℕ → ℕ → Option ℕ
place_of places number granule = option_and_then (λ (column : List ℕ). slice_get column granule) (slice_get places number)

-- the places between which the bytes of a run stand
pub record IsSpanOf (places : List (List ℕ)) (number : ℕ) (run : Run) (span : Span) : Type 0 where
  pub start : place_of places number run.first ≡ Some span.start
  pub end : place_of places number (run.first + run.count) ≡ Some span.end

-- how many rows a run has: so many for each granule, the last granule of all perhaps fewer
abbrev pub rows_in : Loaded → Run → ℕ
rows_in loaded run = min (loaded.schema.granularity * run.count) (loaded.manifest.rows - loaded.schema.granularity * run.first)

-- bytes were read that are those of the file between two places, where the folder tells
abbrev pub IsSpanRead : PartColumn → Span → List ℕ → Type 0
IsSpanRead c span bytes = ForSome c.told (λ files. bytes ≡ slice_range (bytes_of (file.Column c.number) files) span.start span.end)

-- a column got the values that bytes spell, one for each of so many rows; with a mask, those at which it is true
abbrev pub Gains : Option (List Bool) → ℕ → List ℕ → Cells → Cells → Type 0
Gains None count bytes old new = GainsAll count bytes old new
Gains (Some mask) count bytes old new = GainsWhere mask bytes old new

-- a column got the values that the bytes of a run spell, one for each row; with a mask, those at which it is true
pub record IsRunRead (c : PartColumn) (run : Run) (mask : Option (List Bool)) (old new : Cells) : Type 0 where
  pub span : Span
  pub span_is : IsSpanOf c.loaded.places c.number run span
  pub bytes : List ℕ
  pub read : IsSpanRead c span bytes
  pub gained : Gains mask (rows_in c.loaded run) bytes old new

-- a column got what is wanted of a run, and of one without granules nothing
abbrev pub IsRunAdded : PartColumn → Run → Option (List Bool) → Cells → Cells → Type 0
IsRunAdded c run mask old new = ((run.count ≡ 0) × (new ≡ old)) ⊎ IsRunRead c run mask old new

-- ---- damage

-- what is said of the places where they have no such run
abbrev pub no_run : Loaded → PartFault
no_run loaded = Damaged file.Marks 0 (wanted_of loaded file.Marks) (wanted_of loaded file.Marks)

-- the values of a run that were to be read: one of the type for each row
abbrev pub values_in : PartColumn → Run → ColType → WantedValues
values_in c run t = record { loaded = c.loaded; number = c.number; col_type = t; count = rows_in c.loaded run }

-- the bytes of a run were read, and go wrong as a spelling of its values
pub record IsRunDamage (c : PartColumn) (run : Run) (t : ColType) (fault : PartFault) : Type 0 where
  pub span : Span
  pub span_is : IsSpanOf c.loaded.places c.number run span
  pub bytes : List ℕ
  pub read : IsSpanRead c span bytes
  pub misread : IsMisread (values_in c run t) span.start bytes fault

-- the places that are kept have no such run
pub record IsRunless (c : PartColumn) (run : Run) (fault : PartFault) : Type 0 where
  pub none : (span : Span) → IsSpanOf c.loaded.places c.number run span → ⊥
  pub fault_is : fault ≡ no_run c.loaded

-- what a fault says of a run of a column that was read as one of this type
abbrev pub ExplainsRun : PartColumn → Run → ColType → PartFault → Type 0
ExplainsRun c run t Fault = ⊤
ExplainsRun c run t NoMemory = ⊤
ExplainsRun c run t (Damaged f place wanted found) = IsRunDamage c run t (Damaged f place wanted found) ⊎ IsRunless c run (Damaged f place wanted found)

-- ---- the chosen granules of a column

-- the column's file has the bytes of these values of the type, one for each row, and the places that are kept are theirs
pub record HoldsValues (c : PartColumn) (t : ColType) (values : List Value) : Type 0 where
  pub files : Files
  pub told_is : c.told ≡ Some files
  pub spelled : IsSpelling t c.loaded.manifest.rows (bytes_of (file.Column c.number) files) values
  pub places : slice_get c.loaded.places c.number ≡ Some (marks_of c.loaded.schema.granularity values)

-- a column got as many values as the chosen granules have rows: those of the column that is read, where it holds some
pub record GainsChosen (c : PartColumn) (chosen : List Bool) (old new : Cells) : Type 0 where
  pub col_type : new.col_type ≡ old.col_type
  pub even : length new.values ≡ length old.values + chosen_count c.loaded.schema.granularity chosen c.loaded.manifest.rows
  pub values : (values : List Value) → HoldsValues c old.col_type values → new ≡ with_values old (chosen_of c.loaded.schema.granularity chosen values)

-- what a fault says of the chosen granules of a column
pub record ExplainsChosen (c : PartColumn) (chosen : List Bool) (t : ColType) (fault : PartFault) : Type 0 where
  pub run : Run
  pub run_is : IsChosenRun chosen run
  pub explained : ExplainsRun c run t fault
