-- Rows that come next while those in memory tell what comes after them (docs/engines.md, "Merges").
use Rattle.std.specs.Prelude.{◌≡◌, ◌<◌, ◌+◌, ◌^◌, ◌++◌, ℕ, List, [], ◌∷◌, length, Option, Some, slice_get}
use Rattle.std.specs.List.{slice_index_or}
use Rattle.mt_values.specs.declared.value.ColType.{ColType}
use Rattle.mt_values.specs.Schemas.{column_types}
use Rattle.mt_values.specs.Values.{Row}
use Rattle.part_reader.specs.part_writer.Growing.{Growing, HasRows}
use Rattle.row_merge.specs.declared.course.Current.{Current}
use Rattle.row_merge.specs.declared.heads.Cursor.{Cursor}
use Rattle.row_merge.specs.declared.streams.Inputs.{Inputs}
use Rattle.row_merge.specs.declared.streams.Stream.{Stream}
use Rattle.row_merge.specs.declared.stretches.Place.{Place}
use Rattle.row_merge.specs.Heads.{ahead_of}
use Rattle.row_merge.specs.Merging.{ahead_at}
use Rattle.row_merge.specs.Streams.{HandsOver, TakesNext, rows_to_come}

-- the next row of all is taken, and stays in its block; its part has another row in memory
pub record TakesAhead {F : Type 0} (i : Inputs F) (old new : Stream F) (p : Place) : Type 0 where
  pub cursor : Cursor
  pub there : slice_get new.cursors.items p.input ≡ Some cursor
  pub within : p.at < length cursor.block.rows
  pub few : p.at + 1 < 2 ^ 32
  pub types : cursor.block.types ≡ column_types i.schema.now
  pub taken : TakesNext i old new (p.input, slice_index_or cursor.block.rows p.at [])
  pub more : 0 < length (ahead_at (ahead_of new.cursors.items) p.input)
  pub fewer : rows_to_come new < rows_to_come old

-- a cursor that has the next row of all, by the order of the inputs
pub record IsLeading (cursors : List Cursor) (ranked : List ℕ) (c : Cursor) : Type 0 where
  pub others : List ℕ
  pub input : ℕ
  pub ranked_is : ranked ≡ others ++ input ∷ []
  pub there : slice_get cursors input ≡ Some c
  pub some : c.at < length c.block.rows

-- Of the rows of inputs some were taken: what is left of their keys is in the part that is written, but for the rows of one key, of which the rule has a state; the
-- others are left.
pub record IsGoing {S : Type 0} (places : List ℕ) (run : List Row → List Row → Type 0) (holds : S → List Row → Type 0) (takes : Row → Type 0) (types : List ColType) (inputs left : List (List Row)) (current : Option (Current S)) (out : Growing) : Type 0 where
  pub done : List Row
  pub has : HasRows out done
  pub over : HandsOver places run holds takes types inputs done left current
