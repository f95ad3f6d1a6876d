-- Parts merged by the rule that leaves each row (docs/engines.md, "MergeTree").
use Rattle.std.specs.Prelude.{◌≡◌, ◌⊎◌, ℕ, ◌<◌, ◌≤◌, Bool, false, true, List, [], length, slice_get, IsSorted, Option, Some, None}
use Rattle.mt_values.specs.declared.engine.Engine.TheVariants as engine
use Rattle.mt_values.specs.Order.{key_cmp}
use Rattle.mt_values.specs.Schemas.{column_types}
use Rattle.mt_values.specs.Values.{Row}
use Rattle.part_history.specs.mt_model.Rules.{Run}
use Rattle.part_reader.specs.part_writer.Growing.{Growing, HasRows}
use Rattle.row_merge.specs.declared.heads.Cursor.{Cursor}
use Rattle.row_merge.specs.declared.streams.Inputs.{Inputs}
use Rattle.row_merge.specs.declared.streams.Stream.{Stream}
use Rattle.row_merge.specs.declared.stretches.Stretch.{Stretch}
use Rattle.row_merge.specs.Heads.{ahead_of}
use Rattle.row_merge.specs.Merging.{Merging, TakesRows, ahead_at}
use Rattle.row_merge.specs.Streams.{HasMerged, HasNone, IsLeft, IsRefilled, rows_to_come}
use Rattle.row_merge.specs.Stretches.{rows_between}

-- ---- rows of one part are taken

-- Rows of a part that are in memory are taken, and stay in its block. Where those that it has in memory are in order these come next of all that are in memory.
pub record TakesSome {F : Type 0} (i : Inputs F) (old new : Stream F) (s : Stretch) : Type 0 where
  pub cursor : Cursor
  pub there : slice_get new.cursors.items s.input ≡ Some cursor
  pub part : s.input < length i.parts.now
  pub some : s.from < s.to
  pub within : s.to ≤ length cursor.block.rows
  pub types : cursor.block.types ≡ column_types i.schema.now
  pub next : IsSorted (key_cmp i.places.now) (ahead_at (ahead_of old.cursors.items) s.input)
      → TakesRows i.places.now (ahead_of old.cursors.items) s.input (rows_between s.from s.to cursor.block.rows) (ahead_of new.cursors.items)
  pub fewer : rows_to_come new < rows_to_come old

-- the same, or none is in memory
abbrev pub MayTakeSome : {F : Type 0} → Inputs F → Stream F → Stream F → Option Stretch → Type 0
MayTakeSome i old new None = HasNone i old new
MayTakeSome i old new (Some s) = TakesSome i old new s

-- an input that has rows in memory stays as it is
pub record HasSome (input : ℕ) (ahead rests new_ahead new_rests : List (List Row)) : Type 0 where
  pub some : 0 < length (ahead_at ahead input)
  pub ahead_is : new_ahead ≡ ahead
  pub rests_are : new_rests ≡ rests

-- one that has none gets some
pub record GetsSome (input : ℕ) (ahead rests new_ahead new_rests : List (List Row)) : Type 0 where
  pub none : ahead_at ahead input ≡ []
  pub refilled : IsRefilled input ahead rests new_ahead new_rests

abbrev pub IsReadied : ℕ → List (List Row) → List (List Row) → List (List Row) → List (List Row) → Type 0
IsReadied input ahead rests new_ahead new_rests = HasSome input ahead rests new_ahead new_rests ⊎ GetsSome input ahead rests new_ahead new_rests

-- ---- a merge that is on its way

-- the rows of parts that were taken are in the part that is written, in the order of the merge, and the others are left
pub record IsCopying {F : Type 0} (places : List ℕ) (rows : List (List Row)) (s : Stream F) (out : Growing) : Type 0 where
  pub done : List Row
  pub left : List (List Row)
  pub has : HasRows out done
  pub merging : Merging places (Run engine.Plain []) rows done [] left
  pub left_is : IsLeft s rows left

-- rows were copied, or all are
pub record CopiesRows {F : Type 0} (places : List ℕ) (rows : List (List Row)) (s : Stream F) (out : Growing) (more : Bool) : Type 0 where
  pub on : more ≡ true → IsCopying places rows s out
  pub ended : more ≡ false → HasMerged places (Run engine.Plain []) rows out
