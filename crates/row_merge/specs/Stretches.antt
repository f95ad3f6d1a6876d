-- Rows of one input that are taken at once (docs/engines.md, "Merges").
use Rattle.std.specs.Prelude.{◌≡◌, ◌-◌, ◌≤◌, ◌<◌, ◌+◌, ◌^◌, ◌++◌, ℕ, List, [], ◌∷◌, length, take, drop, IsSorted, Some, slice_get}
use Rattle.std.specs.List.{slice_index_or, slice_set}
use Rattle.std.specs.Ordering.{ordering_then}
use Rattle.std.specs.declared.cmp.Ordering.{Ordering}
use Rattle.std.specs.declared.cmp.Ordering.TheVariants.{Less}
use Rattle.mt_values.specs.Order.{key_cmp}
use Rattle.mt_values.specs.Values.{Row, types_of}
use Rattle.row_merge.specs.declared.heads.Cursor.{Cursor}
use Rattle.row_merge.specs.declared.stretches.Place.{Place}
use Rattle.row_merge.specs.declared.stretches.Stretch.{Stretch}
use Rattle.row_merge.specs.Heads.{ahead_of}
use Rattle.row_merge.specs.Merging.{TakesFirst, TakesRows, ahead_at}

-- a row of a cursor's block comes before the first one of another cursor, where the tie decides if they are alike
abbrev pub LeadsAt : List ℕ → Cursor → Cursor → Ordering → ℕ → Type 0
LeadsAt places own other tie at = ordering_then (key_cmp places (slice_index_or own.block.rows at []) (slice_index_or other.block.rows other.at [])) tie ≡ Less

-- the rows from a place up to another
abbrev pub rows_between : ℕ → ℕ → List Row → List Row
rows_between from to rows = take (to - from) (drop from rows)

-- the input with the next row of all has another row in memory after it
pub record HasAnother (ahead : List (List Row)) (ranked : List ℕ) : Type 0 where
  pub others : List ℕ
  pub input : ℕ
  pub ranked_is : ranked ≡ others ++ input ∷ []
  pub two : 1 < length (ahead_at ahead input)

-- The next row of all is taken, and stays in its block. Its input has another row in memory.
pub record TakesPlace (places : List ℕ) (old new : List Cursor) (p : Place) : Type 0 where
  pub cursor : Cursor
  pub there : slice_get new p.input ≡ Some cursor
  pub within : p.at < length cursor.block.rows
  pub few : p.at + 1 < 2 ^ 32
  pub typed : types_of (slice_index_or cursor.block.rows p.at []) ≡ cursor.block.types
  pub first : TakesFirst places (ahead_of old) p.input (slice_index_or cursor.block.rows p.at []) (ahead_of new)
  pub more : 0 < length (ahead_at (ahead_of new) p.input)

-- Some rows of an input are taken, which stay in its block, and its cursor goes on behind them. Where its rows in memory are in order these come next of all.
pub record TakesStretch (places : List ℕ) (old new : List Cursor) (s : Stretch) : Type 0 where
  pub cursor : Cursor
  pub there : slice_get new s.input ≡ Some cursor
  pub some : s.from < s.to
  pub within : s.to ≤ length cursor.block.rows
  pub own_is : ahead_at (ahead_of old) s.input ≡ drop s.from cursor.block.rows
  pub ahead_is : ahead_of new ≡ slice_set (ahead_of old) s.input (drop s.to cursor.block.rows)
  pub next : IsSorted (key_cmp places) (ahead_at (ahead_of old) s.input) → TakesRows places (ahead_of old) s.input (rows_between s.from s.to cursor.block.rows) (ahead_of new)
