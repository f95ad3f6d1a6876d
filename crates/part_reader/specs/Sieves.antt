-- Which rows of a granule of a part meet what is asked of them (docs/architecture.md, "The way of a SELECT").
use Rattle.std.specs.Prelude.{All, ◌≡◌, ◌<◌, ◌≤◌, ℕ, ◌+◌, ◌^◌, Bool, true, false, not, ◌||◌, ◌⊎◌, List, [], ◌∷◌, ◌++◌, length, map, take, drop, get_or, Option, Some, None}
use Rattle.std.specs.List.{filter, list_all}
use Rattle.mt_base.specs.declared.name.FileId.TheVariants as file
use Rattle.mt_values.specs.declared.expr.Test.{Test}
use Rattle.mt_values.specs.declared.schema.Schema.{Schema}
use Rattle.mt_values.specs.Conditions.{Condition}
use Rattle.mt_values.specs.Grid.{Cells, rows_of}
use Rattle.mt_values.specs.Lists.{where_true}
use Rattle.mt_values.specs.Printing.{selected}
use Rattle.mt_values.specs.Schemas.{column_types}
use Rattle.mt_values.specs.Tests.{eval}
use Rattle.mt_values.specs.Values.{Row}
use Rattle.mt_outside.specs.Files.{Files}
use Rattle.part_reader.specs.declared.met_rows.Met.{Met}
use Rattle.part_reader.specs.declared.met_rows.Query.{Query}
use Rattle.part_reader.specs.declared.reading.Part.{Part}
use Rattle.part_reader.specs.declared.reading.PartFault.{PartFault}
use Rattle.part_reader.specs.declared.sieves.Sieve.{Sieve}
use Rattle.part_reader.specs.Faults.{ExplainsAt}
use Rattle.part_reader.specs.Granules.{column_in, rows_in}
use Rattle.part_reader.specs.Parts.{HoldsAt, with_columns}
use Rattle.part_reader.specs.Readings.{AreGranuleColumns, ExplainsLeft, IsFirstLeft, Reading, count_left, granule_items, lone, past}

-- conditions, each with the granules in which it is asked
abbrev pub Asking : Type 0
Asking = List (Condition Test × List Bool)

abbrev pub asking_of : List Sieve → Asking
asking_of sieves = map (λ (s : Sieve). (s.condition, s.granules.now)) sieves

-- whether a row of a granule meets the conditions that are asked there, by the values of the columns that are read for them
abbrev pub passes : Asking → ℕ → Row → Bool
passes asking granule row = list_all (λ p. not (get_or p.1 granule false) || eval p.0 row) asking

-- a part that is read, and what is asked of its rows: the places of the columns that are read for it, and the conditions
pub record Sifting (F : Type 0) : Type 0 where
  pub reading : Reading F
  pub asked : List ℕ
  pub asking : Asking

-- what is asked of the granules of a part that are still to come
abbrev pub sifting_of : {F : Type 0} → Schema → Part F → Query → ℕ → List Bool → Sifting F
sifting_of schema part query most left = record {
  reading = record { schema = schema; part = part; places = query.wanted.now; left = left; most = most };
  asked = query.asked.now;
  asking = asking_of query.sieves.now;
}

-- of a granule's rows those that meet what is asked there
abbrev pub met_items : {F : Type 0} → Sifting F → ℕ → List Row → List Row
met_items s granule rows =
    filter (λ row. passes s.asking granule (selected s.asked row)) (granule_items s.reading.part.loaded.schema.granularity granule rows)

-- how many answers of a mask are true
abbrev pub count_true : List Bool → ℕ
count_true mask = length (where_true mask mask)

-- ---- one granule

-- columns were read for what is asked of a part's granule, and there is an answer for each of its rows
pub record HasAnswers {F : Type 0} (files_of : F → Option Files) (schema : Schema) (part : Part F) (granule : ℕ) (met : Met) : Type 0 where
  pub within : All (λ place. place < length schema.columns) met.places.now
  pub columns : AreGranuleColumns (λ number. column_in files_of part number) granule (column_types schema) met.places.now met.columns.items
  pub count : length met.mask.items ≡ rows_in part.loaded (lone granule)
  pub few : length met.mask.items < 2 ^ 32

-- the columns were read that are to be read for it, and by them each answer is whether the row meets what is asked in the granule
pub record IsMet {F : Type 0} (files_of : F → Option Files) (schema : Schema) (part : Part F) (query : Query) (granule : ℕ) (met : Met) : Type 0 where
  pub places : met.places.now ≡ query.asked.now
  pub answers : HasAnswers files_of schema part granule met
  pub mask : met.mask.items ≡ map (passes (asking_of query.sieves.now) granule) (rows_of met.columns.items (rows_in part.loaded (lone granule)))

-- ---- granule by granule

-- Of the first granule that is left which has any row, the rows that meet what is asked there are added to columns, of each the values of the
-- wanted columns, and counted: each column gets that many values, of its type. The granules after it are left.
pub record AddsMet {F : Type 0} (files_of : F → Option Files) (old new : Sifting F) (olds news : List Cells) (count : ℕ) : Type 0 where
  pub granule : ℕ
  pub first : IsFirstLeft old.reading.part.loaded old.reading.left granule
  pub rest : new ≡ record old { reading = past granule old.reading }
  pub within : count ≤ rows_in old.reading.part.loaded (lone granule)
  pub few : count < 2 ^ 32
  pub types : map (λ (c : Cells). c.col_type) news ≡ map (λ (c : Cells). c.col_type) olds
  pub even : (n : ℕ) → All (λ (c : Cells). length c.values ≡ n) olds → All (λ (c : Cells). length c.values ≡ n + count) news
  pub counted : (rows : List Row) → HoldsAt files_of old.reading.schema old.reading.part (map file.Column old.asked) rows → HoldsAt files_of old.reading.schema old.reading.part (map file.Column old.reading.places) rows
      → count ≡ length (met_items old granule rows)
  pub values : (rows : List Row) → HoldsAt files_of old.reading.schema old.reading.part (map file.Column old.asked) rows → HoldsAt files_of old.reading.schema old.reading.part (map file.Column old.reading.places) rows
      → news ≡ with_columns (met_items old granule rows) old.reading.places olds

-- the rows of the next granule are added that meet what is asked there; or there is no granule that has any row, and nothing changes
abbrev pub AddsNextMet : {F : Type 0} → (F → Option Files) → Sifting F → Sifting F → List Cells → List Cells → Option ℕ → Type 0
AddsNextMet files_of old new olds news None = (new ≡ old) × (news ≡ olds) × (count_left old.reading ≡ 0)
AddsNextMet files_of old new olds news (Some count) = AddsMet files_of old new olds news count

-- ---- all that is left

-- of the items of granules that are left, numbered from one on, those that pass the test of their granule
abbrev pub met_from : {X : Type 0} → ℕ → (ℕ → X → Bool) → ℕ → List Bool → List X → List X
met_from g test granule [] xs = []
met_from g test granule (true ∷ left) xs = filter (test granule) (take g xs) ++ met_from g test (granule + 1) left (drop g xs)
met_from g test granule (false ∷ left) xs = met_from g test (granule + 1) left (drop g xs)

-- of the rows of a part those that are still to come, and meet what is asked in their granule
abbrev pub rows_met : {F : Type 0} → Sifting F → List Row → List Row
rows_met s rows = met_from s.reading.part.loaded.schema.granularity (λ granule row. passes s.asking granule (selected s.asked row)) 0 s.reading.left rows

-- what a fault says: it is of a column that is read for the conditions, or of a wanted one
abbrev pub ExplainsSifting : {F : Type 0} → (F → Option Files) → Sifting F → PartFault → Type 0
ExplainsSifting files_of s fault =
    ExplainsAt (λ number t. ExplainsLeft (column_in files_of s.reading.part number) s.reading.left t) (column_types s.reading.schema) s.asked fault
    ⊎ ExplainsAt (λ number t. ExplainsLeft (column_in files_of s.reading.part number) s.reading.left t) (column_types s.reading.schema) s.reading.places fault
