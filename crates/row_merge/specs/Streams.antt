-- Parts that are read granule by granule, and what a merge of them has in memory (docs/engines.md, "Merges").
use Rattle.std.specs.Prelude.{◌≡◌, ◌⊎◌, ℕ, ◌+◌, ◌*◌, ◌≤◌, ◌<◌, ◌-◌, ◌/◌, ◌^◌, max, min, Bool, true, List, [], ◌∷◌, ◌++◌, length, replicate, slice_get, is_some, All, Option, Some, None}
use Rattle.std.specs.List.{AllZip, slice_index_or, slice_set}
use Rattle.mt_base.specs.declared.partition.Partition.{Partition}
use Rattle.mt_outside.specs.declared.disk.Arm.{Ghosts as ArmGhosts}
use Rattle.mt_outside.specs.Causes.{Rose}
use Rattle.mt_outside.specs.Files.{Files}
use Rattle.mt_values.specs.declared.schema.Schema.{Schema}
use Rattle.mt_values.specs.declared.value.ColType.{ColType}
use Rattle.mt_values.specs.Grid.{AreRowsOf}
use Rattle.mt_values.specs.Schemas.{column_types}
use Rattle.mt_values.specs.Tables.{has_sign, sorting_columns}
use Rattle.mt_values.specs.Values.{Row, types_of}
use Rattle.part_history.specs.mt_model.Folding.{Leaves}
use Rattle.part_history.specs.mt_model.History.{IsTableSchema}
use Rattle.part_history.specs.part_name.declared.part.PartName.{PartName}
use Rattle.part_reader.specs.declared.reading.Part.{Part}
use Rattle.part_reader.specs.declared.reading.PartFault.{PartFault}
use Rattle.part_reader.specs.Faults.{ExplainsAt}
use Rattle.part_reader.specs.Granules.{ExplainsRun, PartColumn, column_in, rows_in}
use Rattle.part_reader.specs.part_writer.Growing.{Growing, HasRows, IsWhole}
use Rattle.part_reader.specs.Readings.{Reading, count_left, lone, rows_left}
use Rattle.part_set.specs.declared.kept.Kept.{Kept}
use Rattle.rule_replacing.specs.rule_law.TableRows.{IsTableRow}
use Rattle.row_merge.specs.declared.course.Current.{Current}
use Rattle.row_merge.specs.declared.heads.Cursor.{Cursor}
use Rattle.row_merge.specs.declared.held.Held.{Held}
use Rattle.row_merge.specs.declared.streams.Inputs.{Inputs}
use Rattle.row_merge.specs.declared.streams.Plan.{Plan}
use Rattle.row_merge.specs.declared.streams.Stream.{Stream}
use Rattle.row_merge.specs.Course.{HoldsKey}
use Rattle.row_merge.specs.Heads.{AreOfTypes, ahead_of}
use Rattle.row_merge.specs.Held.{IsHeldWithin}
use Rattle.row_merge.specs.Merged.{IsFoldOf, IsMergedOf, rows_of_all}
use Rattle.row_merge.specs.MergedParts.{HasShape, column_places}
use Rattle.row_merge.specs.Merging.{AreRanked, AreReady, IsTaken, Merging, TakesFirst, ahead_at, joined}

-- ---- how parts are read

-- what all parts of a table are read by: the columns by which rows are sorted, all columns, and as many granules as any of the parts has, all of them chosen
pub record IsPlanOf {F : Type 0} (schema : Schema) (parts : List (Kept (Part F))) (plan : Plan) : Type 0 where
  pub sorting : plan.sorting ≡ sorting_columns schema
  pub columns : plan.columns.items ≡ column_places schema
  pub all : plan.chosen.items ≡ replicate (length plan.chosen.items) true
  pub enough : All (λ (k : Kept (Part F)). k.part.loaded.manifest.rows ≤ schema.granularity * length plan.chosen.items) parts

-- how many bytes are read ahead at most of each of this many columns of each of this many parts: 2^24 are divided among them
abbrev pub share : ℕ → ℕ → ℕ
share parts columns = 2 ^ 24 / max (min (parts * columns) (2 ^ 64 - 1)) 1

-- a reader of a part of which nothing was read yet, with this share of what is read ahead
abbrev pub reader_of : {F : Type 0} → Schema → Plan → ℕ → Kept (Part F) → Reading F
reader_of schema plan most k = record { schema = schema; part = k.part; places = plan.columns.items; left = plan.chosen.items; most = most }

-- readers of these columns of the chosen granules of each part, of which nothing was read yet
abbrev pub chosen_readers : {F : Type 0} → Schema → List ℕ → ℕ → List (Kept (Part F)) → List (List Bool) → List (Reading F)
chosen_readers schema columns most (k ∷ parts) (own ∷ chosen) =
    record { schema = schema; part = k.part; places = columns; left = own; most = most } ∷ chosen_readers schema columns most parts chosen
chosen_readers schema columns most parts chosen = []

-- no row of a part is in memory
abbrev pub no_cursor : List ColType → Cursor
no_cursor types = record { block = record { types = types; rows = [] }; at = 0 }

-- the reader gives all columns of a part of the table
pub record IsReaderOf {F : Type 0} (schema : Schema) (k : Kept (Part F)) (r : Reading F) : Type 0 where
  pub schema_is : r.schema ≡ schema
  pub part_is : r.part ≡ k.part
  pub places_are : r.places ≡ column_places schema

-- a reader once it went on: no other granules are left than were before
pub record IsLater {F : Type 0} (old new : Reading F) : Type 0 where
  pub schema_is : new.schema ≡ old.schema
  pub part_is : new.part ≡ old.part
  pub places_are : new.places ≡ old.places
  pub among : (granule : ℕ) → slice_get new.left granule ≡ Some true → slice_get old.left granule ≡ Some true

abbrev pub AreLater : {F : Type 0} → List (Reading F) → List (Reading F) → Type 0
AreLater olds news = AllZip IsLater olds news

-- of the rows that parts hold those that the readers have still to give
abbrev pub rests_of : {F : Type 0} → List (Reading F) → List (List Row) → List (List Row)
rests_of [] rows = []
rests_of (r ∷ readers) [] = []
rests_of (r ∷ readers) (own ∷ rows) = rows_left r own ∷ rests_of readers rows

-- how many rows these are, by what is kept of the parts
abbrev pub count_of_rests : {F : Type 0} → List (Reading F) → ℕ
count_of_rests [] = 0
count_of_rests (r ∷ readers) = count_left r + count_of_rests readers

-- ---- parts that are read

-- parts of a table, at least one, with the columns by which its rows are sorted
pub record AreInputs {F : Type 0} (i : Inputs F) : Type 0 where
  pub table : IsTableSchema i.schema.now
  pub some : 0 < length i.parts.now
  pub places_are : i.places.now ≡ sorting_columns i.schema.now
  pub own : All (λ place. place < length (column_types i.schema.now)) i.places.now

-- the table's own columns are kept of each part
abbrev pub AreShaped : {F : Type 0} → Inputs F → Type 0
AreShaped {F} i = All (λ (k : Kept (Part F)). HasShape i.schema.now k.part.loaded.schema) i.parts.now

-- what is in memory of parts and of what the rule gave stays within what is said of a merge of as many
abbrev pub IsWithin : {F : Type 0} → Inputs F → Held → Type 0
IsWithin i h = IsHeldWithin (length i.parts.now) i.schema.now.granularity h

-- What is counted as read is in memory, of each part a granule at most. It is all that is in memory, where the count has room for a granule of each.
pub record CountsRows {F : Type 0} (i : Inputs F) (s : Stream F) : Type 0 where
  pub read : s.held.read ≤ length (rows_of_all (ahead_of s.cursors.items))
  pub exact : length i.parts.now * i.schema.now.granularity < 2 ^ 64 → s.held.read ≡ length (rows_of_all (ahead_of s.cursors.items))
  pub reached : s.held.read ≤ s.held.most_read
  pub few : All (λ (rows : List Row). length rows ≤ i.schema.now.granularity) (ahead_of s.cursors.items)
  pub within : IsWithin i s.held

-- parts of a table, the reader of each, and the rows of each that are in memory; those that have some are ranked. No row that the rule gave is in memory.
pub record IsStream {F : Type 0} (i : Inputs F) (s : Stream F) : Type 0 where
  pub inputs : AreInputs i
  pub readers : AllZip (IsReaderOf i.schema.now) i.parts.now s.readers.items
  pub count : length s.cursors.items ≡ length i.parts.now
  pub types : AreOfTypes (column_types i.schema.now) s.cursors.items
  pub ranked : AreRanked i.places.now (ahead_of s.cursors.items) s.ranked.items
  pub none_made : s.held.made ≡ 0
  pub counts : AreShaped i → CountsRows i s

-- how many rows were not taken yet
abbrev pub rows_to_come : {F : Type 0} → Stream F → ℕ
rows_to_come s = length (rows_of_all (ahead_of s.cursors.items)) + count_of_rests s.readers.items

-- these rows of the parts were not taken yet: those in memory, and those that are still to be given; where a part has no row in memory, it has none left
pub record IsLeft {F : Type 0} (s : Stream F) (rows left : List (List Row)) : Type 0 where
  pub left_is : left ≡ joined (ahead_of s.cursors.items) (rests_of s.readers.items rows)
  pub ready : AreReady (ahead_of s.cursors.items) (rests_of s.readers.items rows)

-- an input gets rows of its rest into memory, and some where it has a rest
pub record IsRefilled (input : ℕ) (ahead rests new_ahead new_rests : List (List Row)) : Type 0 where
  pub given : List Row
  pub rest : List Row
  pub before : slice_index_or rests input [] ≡ given ++ rest
  pub ahead_is : new_ahead ≡ slice_set ahead input given
  pub rests_are : new_rests ≡ slice_set rests input rest
  pub none : given ≡ [] → rest ≡ []

-- ---- the first granules

-- of a part all of whose granules are chosen nothing was read
pub record IsUnread {F : Type 0} (r : Reading F) : Type 0 where
  pub granules : ℕ
  pub all : r.left ≡ replicate granules true
  pub enough : r.part.loaded.manifest.rows ≤ r.schema.granularity * granules

-- the same of the part with a number
abbrev pub IsUnreadAt : {F : Type 0} → List (Reading F) → ℕ → Type 0
IsUnreadAt {F} readers number = (r : Reading F) → slice_get readers number ≡ Some r → IsUnread r

-- the part with a number has its first granule in memory
abbrev pub HasFirst : {F : Type 0} → Inputs F → ℕ → List (List Row) → Type 0
HasFirst {F} i number ahead = (k : Kept (Part F)) → slice_get i.parts.now number ≡ Some k → min i.schema.now.granularity k.part.loaded.manifest.rows ≤ length (ahead_at ahead number)

-- a part is read on, and no other: where nothing was read of it, its first granule is in memory then
pub record ReadsPart {F : Type 0} (i : Inputs F) (number : ℕ) (old new : Stream F) : Type 0 where
  pub others : (j : ℕ) → (j ≡ number → ⊥) → slice_get new.readers.items j ≡ slice_get old.readers.items j
  pub first : AreShaped i → IsUnreadAt old.readers.items number → HasFirst i number (ahead_of new.cursors.items)
  pub most : old.held.most_read ≤ new.held.most_read

-- ---- the next row

-- the next row of all is taken
pub record TakesRow {F : Type 0} (places : List ℕ) (rows left : List (List Row)) (row : Row) (new : Stream F) : Type 0 where
  pub after : List (List Row)
  pub taken : IsTaken places left row after
  pub left_is : IsLeft new rows after

-- the same, or none is left
abbrev pub GivesRow : {F : Type 0} → List ℕ → List (List Row) → List (List Row) → Stream F → Option Row → Type 0
GivesRow places rows left new None = rows_of_all left ≡ []
GivesRow places rows left new (Some row) = TakesRow places rows left row new

-- a row that is in memory is taken, with the number of its part
pub record TakesNext {F : Type 0} (i : Inputs F) (old new : Stream F) (taken : ℕ × Row) : Type 0 where
  pub first : TakesFirst i.places.now (ahead_of old.cursors.items) taken.0 taken.1 (ahead_of new.cursors.items)
  pub typed : types_of taken.1 ≡ column_types i.schema.now

-- none is in memory, and none is counted then
pub record HasNone {F : Type 0} (i : Inputs F) (old new : Stream F) : Type 0 where
  pub none : All (λ (rows : List Row). rows ≡ []) (ahead_of old.cursors.items)
  pub idle : AreShaped i → new.held.read ≡ 0

abbrev pub MayTake : {F : Type 0} → Inputs F → Stream F → Stream F → Option (ℕ × Row) → Type 0
MayTake i old new None = HasNone i old new
MayTake i old new (Some taken) = TakesNext i old new taken

-- ---- why a part could not be read

-- a granule of a column was read that was left and has some row, as one of this type
pub record ExplainsAmong (c : PartColumn) (left : List Bool) (t : ColType) (fault : PartFault) : Type 0 where
  pub granule : ℕ
  pub there : slice_get left granule ≡ Some true
  pub some : 0 < rows_in c.loaded (lone granule)
  pub explained : ExplainsRun c (lone granule) t fault

-- what a fault says of one of the readers, by the name of its part: damage is that of a granule that was left
pub record ExplainsStream {F : Type 0} (files_of : F → Option Files) (i : Inputs F) (readers : List (Reading F)) (e : PartName × PartFault) : Type 0 where
  pub at : ℕ
  pub kept : Kept (Part F)
  pub reader : Reading F
  pub kept_is : slice_get i.parts.now at ≡ Some kept
  pub reader_is : slice_get readers at ≡ Some reader
  pub name_is : e.0 ≡ kept.name
  pub explained : ExplainsAt (λ number t. ExplainsAmong (column_in files_of reader.part number) reader.left t) (column_types reader.schema) reader.places e.1

-- ---- a merge that is on its way

-- Rows were appended to a part that is written: it is whole, of the same table, and its files are told as before.
pub record Grew (was out : Growing) : Type 0 where
  pub whole : IsWhole out
  pub table : out.grown.schema ≡ was.grown.schema
  pub told : is_some out.stage.files ≡ is_some was.stage.files

-- A merge of parts into one that is written may go on: they are those of the table, and that one is whole, and of the same table.
pub record MayGoOn {F : Type 0} (i : Inputs F) (s : Stream F) (out : Growing) : Type 0 where
  pub stream : IsStream i s
  pub shaped : AreShaped i
  pub whole : IsWhole out
  pub table : out.grown.schema ≡ i.schema.now

-- It went on, and may go on: the files of the part that is written are told as before, and the greatest count of rows in memory did not fall.
pub record WentOn {F : Type 0} (i : Inputs F) (was s : Stream F) (out_was out : Growing) : Type 0 where
  pub on : MayGoOn i s out
  pub told : is_some out.stage.files ≡ is_some out_was.stage.files
  pub rises : was.held.most_read ≤ s.held.most_read

-- a rule takes each row of a table that has its sign
abbrev pub TakesTable : (Row → Type 0) → Schema → Type 0
TakesTable takes schema = (row : Row) → types_of row ≡ column_types schema → has_sign schema row ≡ true → takes row

-- rows that the rule takes, of these types, and of which it has a state
pub record IsPending {S : Type 0} (holds : S → List Row → Type 0) (takes : Row → Type 0) (types : List ColType) (current : Option (Current S)) (pending : List Row) : Type 0 where
  pub held : HoldsKey holds current pending
  pub taken : All takes pending
  pub typed : AreRowsOf types pending

pub record HasPending {S : Type 0} (holds : S → List Row → Type 0) (takes : Row → Type 0) (types : List ColType) (current : Option (Current S)) : Type 0 where
  pub pending : List Row
  pub is : IsPending holds takes types current pending

-- the same of rows of the table
abbrev pub HasCurrent : {F S : Type 0} → (S → List Row → Type 0) → (Row → Type 0) → Inputs F → Option (Current S) → Type 0
HasCurrent holds takes i current = HasPending holds takes (column_types i.schema.now) current

-- the next row was handed over, and what came out
pub record HandsOver {S : Type 0} (places : List ℕ) (run : List Row → List Row → Type 0) (holds : S → List Row → Type 0) (takes : Row → Type 0) (types : List ColType) (inputs : List (List Row)) (out : List Row) (left : List (List Row)) (new : Option (Current S)) : Type 0 where
  pub pending : List Row
  pub is : IsPending holds takes types new pending
  pub merging : Merging places run inputs out pending left

-- Of the rows of parts some were taken: what is left of their keys is in the part that is written, but for the rows of one key, of which the rule has a state.
pub record IsMerging {F S : Type 0} (run : List Row → List Row → Type 0) (holds : S → List Row → Type 0) (takes : Row → Type 0) (i : Inputs F) (rows : List (List Row)) (s : Stream F) (current : Option (Current S)) (out : Growing) : Type 0 where
  pub done : List Row
  pub left : List (List Row)
  pub has : HasRows out done
  pub over : HandsOver i.places.now run holds takes (column_types i.schema.now) rows done left current
  pub left_is : IsLeft s rows left
  pub own : All (IsTableRow i.schema.now) (rows_of_all left)

-- The same of rows that were left, where a sink got what is left of their keys.
pub record IsFolding {F S T : Type 0} (gets : T → List Row → T → Type 0) (run : List Row → List Row → Type 0) (holds : S → List Row → Type 0) (takes : Row → Type 0) (i : Inputs F) (inputs rows : List (List Row)) (s : Stream F) (current : Option (Current S)) (first out : T) : Type 0 where
  pub done : List Row
  pub left : List (List Row)
  pub got : gets first done out
  pub over : HandsOver i.places.now run holds takes (column_types i.schema.now) inputs done left current
  pub left_is : IsLeft s rows left
  pub own : All (IsTableRow i.schema.now) (rows_of_all left)

-- what the rule leaves of the last key was appended
pub record Ends (run : List Row → List Row → Type 0) (done pending : List Row) (out : Growing) : Type 0 where
  pub kept : List Row
  pub has : HasRows out (done ++ kept)
  pub leaves : Leaves run pending kept

-- the part that is written has what folds leave of all rows
pub record HasMerged (places : List ℕ) (run : List Row → List Row → Type 0) (rows : List (List Row)) (out : Growing) : Type 0 where
  pub done : List Row
  pub has : HasRows out done
  pub folds : IsFoldOf places run (rows_of_all rows) done

-- what a merge by the rule of the table's engine leaves of them
pub record HasMergedTable (schema : Schema) (partition : Partition) (rows : List (List Row)) (out : Growing) : Type 0 where
  pub done : List Row
  pub has : HasRows out done
  pub merged : IsMergedOf schema partition rows done

-- no row was read or taken; no greatest count fell, and their bounds stay
pub record KeepsHeld (old new : Held) : Type 0 where
  pub read : new.read ≡ old.read
  pub most : old.most_read ≤ new.most_read
  pub given : old.most_given ≤ new.most_given
  pub within : (inputs granularity : ℕ) → IsHeldWithin inputs granularity old → IsHeldWithin inputs granularity new

-- What a call leaves of an arm that it reads with, and of a stage that it fills: neither count of faults is below, and one of them rises where it answers a fault.
pub record LeavesBoth {A S F : Type 0} (arms : ArmGhosts A S F) (before now : A) (stage_before stage_now : ℕ) (faults : Type 0) : Type 0 where
  pub tells : arms.tells now ≡ arms.tells before
  pub later : arms.failed before ≤ arms.failed now
  pub stage_later : stage_before ≤ stage_now
  pub fault : faults → Rose (arms.failed before) (arms.failed now) ⊎ Rose stage_before stage_now
  pub calm : (faults → ⊥) → (arms.failed now ≡ arms.failed before) × (stage_now ≡ stage_before)
