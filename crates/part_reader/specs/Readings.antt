-- What is left of a part that is read granule by granule (docs/formats.md, "Parts").
use Rattle.std.specs.Prelude.{◌≡◌, ◌<◌, ℕ, ◌+◌, ◌*◌, Bool, true, false, List, [], ◌∷◌, ◌++◌, length, map, take, drop, replicate, slice_get, Option, Some, None}
use Rattle.std.specs.List.{filter_map}
use Rattle.mt_base.specs.declared.name.FileId.TheVariants as file
use Rattle.mt_values.specs.declared.schema.Schema.{Schema}
use Rattle.mt_values.specs.declared.value.ColType.{ColType}
use Rattle.mt_values.specs.Grid.{Cells, Grid}
use Rattle.mt_values.specs.Printing.{selected}
use Rattle.mt_values.specs.Schemas.{column_types}
use Rattle.mt_values.specs.Values.{Row}
use Rattle.mt_outside.specs.Files.{Files}
use Rattle.part_damage.specs.part_writer.declared.loaded.Loaded.{Loaded}
use Rattle.part_reader.specs.declared.reading.Part.{Part}
use Rattle.part_reader.specs.declared.reading.PartFault.{PartFault}
use Rattle.part_reader.specs.declared.runs.Run.{Run}
use Rattle.part_reader.specs.Columns.{AreEach}
use Rattle.part_reader.specs.Granules.{ExplainsRun, GainsChosen, PartColumn, chosen_count, chosen_of, rows_in}
use Rattle.part_reader.specs.Parts.{HoldsAt}

-- ---- one granule

-- a granule by itself
abbrev pub lone : ℕ → Run
lone granule = record { first = granule; count = 1 }

-- that granule alone is chosen
abbrev pub lone_chosen : ℕ → List Bool
lone_chosen granule = replicate granule false ++ true ∷ []

-- the items of a granule: as many as its size says, of the last granule perhaps fewer
abbrev pub granule_items : {X : Type 0} → ℕ → ℕ → List X → List X
granule_items granularity granule xs = take granularity (drop (granularity * granule) xs)

-- columns that were without values got those of a granule, each at its place
pub record AreGranuleColumns (column : ℕ → PartColumn) (granule : ℕ) (types : List ColType) (places : List ℕ) (columns : List Cells) : Type 0 where
  pub olds : List Cells
  pub types_are : map (λ (c : Cells). c.col_type) olds ≡ filter_map (slice_get types) places
  pub empty : map (λ (c : Cells). c.values) olds ≡ map (λ place. []) places
  pub gained : AreEach (λ place. GainsChosen (column place) (lone_chosen granule)) places olds columns

-- ---- granules that are left

-- of chosen granules those from one on
abbrev pub from_granule : ℕ → List Bool → List Bool
from_granule granule chosen = replicate granule false ++ drop granule chosen

-- of the granules that are left this is the first that has any row
pub record IsFirstLeft (loaded : Loaded) (left : List Bool) (granule : ℕ) : Type 0 where
  pub there : slice_get left granule ≡ Some true
  pub some : 0 < rows_in loaded (lone granule)
  pub none_before : chosen_count loaded.schema.granularity (take granule left) loaded.manifest.rows ≡ 0

-- a part of a table that is read: the columns at which places are wanted of it, which of its granules are still to come, and how many bytes
-- of each column are read ahead and kept at most
pub record Reading (F : Type 0) : Type 0 where
  pub schema : Schema
  pub part : Part F
  pub places : List ℕ
  pub left : List Bool
  pub most : ℕ

-- the same once a granule was given, and those before it were given or passed over
abbrev pub past : {F : Type 0} → ℕ → Reading F → Reading F
past granule r = record r { left = from_granule (granule + 1) r.left }

-- how many rows are still to come, by what is kept of the part
abbrev pub count_left : {F : Type 0} → Reading F → ℕ
count_left r = chosen_count r.part.loaded.schema.granularity r.left r.part.loaded.manifest.rows

-- of the rows of a part those that are still to come, with the values of the wanted columns
abbrev pub rows_left : {F : Type 0} → Reading F → List Row → List Row
rows_left r rows = map (selected r.places) (chosen_of r.part.loaded.schema.granularity r.left rows)

-- ---- what is given

-- The rows of the first granule that is left which has any are given, of each the values of the wanted columns, and those after it are
-- left. They are rows of the types of these columns, and that many; where the part holds rows, they are those of the granule.
pub record GivesGranule {F : Type 0} (files_of : F → Option Files) (old new : Reading F) (given : Grid) : Type 0 where
  pub granule : ℕ
  pub first : IsFirstLeft old.part.loaded old.left granule
  pub rest : new ≡ past granule old
  pub count : length given.rows ≡ rows_in old.part.loaded (lone granule)
  pub types : given.types ≡ filter_map (slice_get (column_types old.schema)) old.places
  pub rows : (rows : List Row) → HoldsAt files_of old.schema old.part (map file.Column old.places) rows
      → given.rows ≡ map (selected old.places) (granule_items old.part.loaded.schema.granularity granule rows)

-- the next granule is given; or there is none that has any row, and nothing changes
abbrev pub GivesNext : {F : Type 0} → (F → Option Files) → Reading F → Reading F → Option Grid → Type 0
GivesNext files_of old new None = (new ≡ old) × (count_left old ≡ 0)
GivesNext files_of old new (Some given) = GivesGranule files_of old new given

-- what was left before is what is given, and then what is left after; where nothing is given, nothing was left
abbrev pub LeavesRows : List Row → List Row → Option Grid → Type 0
LeavesRows before after None = before ≡ []
LeavesRows before after (Some given) = before ≡ given.rows ++ after

-- what a fault says of a column of which granules are left: it is of the first of them that has any row
pub record ExplainsLeft (c : PartColumn) (left : List Bool) (t : ColType) (fault : PartFault) : Type 0 where
  pub granule : ℕ
  pub first : IsFirstLeft c.loaded left granule
  pub explained : ExplainsRun c (lone granule) t fault
