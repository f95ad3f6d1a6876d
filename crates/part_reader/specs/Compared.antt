-- Whether what is kept of a part is that of the files of its columns (docs/formats.md, "Parts").
use Rattle.std.specs.Prelude.{◌≡◌, ◌↔◌, ℕ, ◌+◌, ◌*◌, ◌<◌, ◌&&◌, true, min, IsTrue, List, ◌++◌, length, map, slice_get, All, MatchResult, Result, Option, Some, None, if◌then◌else◌}
use Rattle.std.specs.List.{filter_map, range_with_len}
use Rattle.std.specs.Option.{option_map}
use Rattle.mt_base.specs.declared.name.FileId.{FileId}
use Rattle.mt_base.specs.declared.name.FileId.TheVariants as file
use Rattle.mt_values.specs.declared.schema.Schema.{Schema}
use Rattle.mt_values.specs.declared.schema.SkipIndex.{SkipIndex}
use Rattle.mt_values.specs.declared.value.Value.{Value}
use Rattle.mt_values.specs.declared.value.ColType.{ColType}
use Rattle.mt_values.specs.ColumnBytes.{column_bytes}
use Rattle.mt_values.specs.Grid.{Cells, column_of}
use Rattle.mt_values.specs.Schemas.{column_types}
use Rattle.part_damage.specs.column_file.Granules.{granule_start, marks_of}
use Rattle.part_damage.specs.column_file.Marks.{granules, with_final}
use Rattle.part_damage.specs.column_file.Spellings.{IsOfType, IsSpelling}
use Rattle.part_damage.specs.column_file.Faults.{Explains}
use Rattle.part_damage.specs.byte_numbers.Fronts.{Begins}
use Rattle.part_damage.specs.byte_numbers.declared.faults.FormatFault.{FormatFault}
use Rattle.part_damage.specs.part_writer.PartFiles.{mark_of}
use Rattle.part_damage.specs.part_writer.declared.loaded.Loaded.{Loaded}
use Rattle.part_damage.specs.skip_index.declared.index.Index.{Index}
use Rattle.part_damage.specs.skip_index.Blocks.{blocks_of, kept_of}
use Rattle.part_damage.specs.Marks.{mark_for}
use Rattle.part_reader.specs.declared.comparing.Agreement.{Agreement}
use Rattle.part_reader.specs.declared.comparing.ColumnMarks.{ColumnMarks}
use Rattle.part_reader.specs.declared.indexed.ColumnFile.{ColumnFile}

-- the places that are kept of a column are those of its values
abbrev pub HasPlacesOf : Schema → Loaded → ℕ → List Value → Type 0
HasPlacesOf schema loaded number values = slice_get loaded.places number ≡ Some (marks_of schema.granularity values)

-- wherever the primary key names the column, the keys that are kept have those of its values with which granules begin, and the last
abbrev pub HasKeysOf : Schema → Loaded → ℕ → List Value → Type 0
HasKeysOf schema loaded number values =
    (place : ℕ) → slice_get schema.primary place ≡ Some number → column_of place loaded.marks ≡ with_final schema.granularity values

-- of the places from 0 on, this is the first at which it does not hold; or none is, and it holds at each
abbrev pub IsFirstFailing : (ℕ → Type 0) → Option ℕ → Type 0
IsFirstFailing Holds None = (i : ℕ) → Holds i
IsFirstFailing Holds (Some i) = ((j : ℕ) → j < i → Holds j) × (Holds i → ⊥)

-- what a skip index keeps of the values of its column, in the order of the rows, where a granule has so many
abbrev pub index_kept : ℕ → SkipIndex → List Value → Index
index_kept granularity index values = record {
  column = index.column;
  span = index.granularity;
  granules = granules granularity (length values);
  blocks = map (kept_of index.kind) (blocks_of (granularity * index.granularity) values);
}

-- where the skip index at a place is one of the column, what is kept of it is that of the column's values
abbrev pub HasIndexOf : Schema → Loaded → ℕ → List Value → ℕ → Type 0
HasIndexOf schema loaded number values place =
    (index : SkipIndex) → slice_get schema.indexes place ≡ Some index → index.column ≡ number → slice_get loaded.indexes place ≡ Some (index_kept schema.granularity index values)

-- what is kept is that of a column's values, or is not
pub record Agrees (schema : Schema) (loaded : Loaded) (number : ℕ) (values : List Value) (agreed : Agreement) : Type 0 where
  pub places : IsTrue agreed.places ↔ HasPlacesOf schema loaded number values
  pub keys : IsTrue agreed.keys ↔ HasKeysOf schema loaded number values
  pub index : IsFirstFailing (HasIndexOf schema loaded number values) agreed.index

-- what the bytes of a column's file spell, as many values as the part has rows, is what is kept, or is not
pub record IsColumnCompared (schema : Schema) (loaded : Loaded) (number : ℕ) (bytes : List ℕ) (agreed : Agreement) : Type 0 where
  pub col_type : ColType
  pub type_is : slice_get (column_types schema) number ≡ Some col_type
  pub values : List Value
  pub spelling : IsSpelling col_type loaded.manifest.rows bytes values
  pub agrees : Agrees schema loaded number values agreed

-- the bytes of a column's file begin with these values of its type, which end at the place
pub record EndsAt (column : ColumnFile) (place : ℕ) (values : List Value) : Type 0 where
  pub typed : All (IsOfType column.col_type) values
  pub begins : Begins (column_bytes values) place column.bytes.now

-- so many values more were read of a column's file after these, or its bytes go wrong as a spelling of the column
abbrev pub IsReadFrom : ColumnFile → List Value → ℕ → Result (Cells × ℕ) FormatFault → Type 0
IsReadFrom column before count result =
    MatchResult result (λ p. (length p.0.values ≡ count) × EndsAt column p.1 (before ++ p.0.values)) (Explains column.col_type column.count column.bytes.now)

-- all are
abbrev pub whole : Agreement
whole = record { places = true; keys = true; index = None }

-- the first of two places, where there is one
abbrev pub first_of : Option ℕ → Option ℕ → Option ℕ
first_of None b = b
first_of (Some a) None = Some a
first_of (Some a) (Some b) = Some (min a b)

-- what is said of columns, and of others
abbrev pub both_agree : Agreement → Agreement → Agreement
both_agree a b = record { places = a.places && b.places; keys = a.keys && b.keys; index = first_of a.index b.index }

-- the bytes of a file are compared, by its kind: what the files of granules and of skip indexes have in them is compared with the columns
abbrev pub AreCompared : Schema → Loaded → FileId → List ℕ → Agreement → Type 0
AreCompared schema loaded (file.Column n) bytes agreed = IsColumnCompared schema loaded n bytes agreed
AreCompared schema loaded f bytes agreed = agreed ≡ whole

-- they have the mark that the manifest has of the file, and are compared
pub record IsCompared (schema : Schema) (loaded : Loaded) (f : FileId) (bytes : List ℕ) (agreed : Agreement) : Type 0 where
  pub marked : mark_for schema loaded.manifest f ≡ Some (mark_of bytes)
  pub are : AreCompared schema loaded f bytes agreed

-- the file that says what is not that of the columns, the places before the keys, and these before the skip indexes
abbrev pub unlike_file : Agreement → Option FileId
unlike_file agreed = if agreed.places then (if agreed.keys then option_map file.Skip agreed.index else Some file.Primary) else Some file.Marks

-- granules of these values begin at these places and with these values, each of so many; the last may want some more
pub record AreBegun (granularity : ℕ) (values : List Value) (found : ColumnMarks) (left : ℕ) : Type 0 where
  pub count_is : length values + left ≡ granularity * length found.starts
  pub few : left < granularity
  pub starts : found.starts ≡ map (granule_start granularity values) (range_with_len 0 (length found.starts))
  pub firsts : found.firsts.values ≡ filter_map (λ granule. slice_get values (granularity * granule)) (range_with_len 0 (length found.starts))

-- where the granules of the values begin which the bytes spell, so many of them, and the values with which they begin, and the last
pub record AreMarksIn (t : ColType) (count granularity : ℕ) (bytes : List ℕ) (found : ColumnMarks) : Type 0 where
  pub values : List Value
  pub spelling : IsSpelling t count bytes values
  pub starts : found.starts ≡ marks_of granularity values
  pub firsts : found.firsts.values ≡ with_final granularity values
