-- What the cursors of inputs have in memory (docs/engines.md, "Merges").
use Rattle.std.specs.Prelude.{◌≡◌, ◌<◌, ℕ, List, [], length, map, drop, All}
use Rattle.mt_values.specs.declared.value.ColType.{ColType}
use Rattle.mt_values.specs.Values.{Row, types_of}
use Rattle.row_merge.specs.declared.heads.Cursor.{Cursor}

-- the rows of each input that were read and not yet taken
abbrev pub ahead_of : List Cursor → List (List Row)
ahead_of cursors = map (λ (c : Cursor). drop c.at c.block.rows) cursors

-- each block has the columns at these places
abbrev pub AreComparable : List ℕ → List Cursor → Type 0
AreComparable places cursors = All (λ (c : Cursor). All (λ place. place < length c.block.types) places) cursors

-- no input has a row that was read and not yet taken, and nothing changes
pub record IsNoneAhead (cursors new : List Cursor) : Type 0 where
  pub none : All (λ (rows : List Row). rows ≡ []) (ahead_of cursors)
  pub same : new ≡ cursors

-- the blocks have columns of these types
abbrev pub AreOfTypes : List ColType → List Cursor → Type 0
AreOfTypes types cursors = All (λ (c : Cursor). c.block.types ≡ types) cursors

-- a row has the types that the columns of all blocks have
abbrev pub IsTypedAs : List Cursor → Row → Type 0
IsTypedAs cursors row = (types : List ColType) → AreOfTypes types cursors → types_of row ≡ types

-- where the blocks have columns of some types, they have them then
abbrev pub AreTypedAs : List Cursor → List Cursor → Type 0
AreTypedAs cursors new = (types : List ColType) → AreOfTypes types cursors → AreOfTypes types new
