-- What merges at unknown times make of the rows of one key: steps, each of which folds a run of neighbours (docs/engines.md, "Merges").
use Rattle.std.specs.Prelude.{◌≡◌, ℕ, zero, suc, ◌<◌, List, [], ◌∷◌, ◌++◌, length}
use Rattle.mt_values.specs.Values.{Row}

-- one merge: a run of neighbours, at least one row, is replaced by what its fold may leave (docs/engines.md, "Merges"; ClickHouse, MergeTree: data storage)
pub record Merges (run : List Row → List Row → Type 0) (before after : List Row) : Type 0 where
  pub front : List Row
  pub rows : List Row
  pub out : List Row
  pub back : List Row
  pub some : 0 < length rows
  pub folded : run rows out
  pub before_is : before ≡ front ++ (rows ++ back)
  pub after_is : after ≡ front ++ (out ++ back)

-- this many merges (docs/engines.md, "Merges")
abbrev pub MergesTimes : ℕ → (List Row → List Row → Type 0) → List Row → List Row → Type 0
MergesTimes zero run before after = before ≡ after
MergesTimes (suc n) run before after = (middle : List Row) × Merges run before middle × MergesTimes n run middle after

-- any number of merges (docs/engines.md, "Merges"; ClickHouse, MergeTree: data storage)
abbrev pub ComesFrom : (List Row → List Row → Type 0) → List Row → List Row → Type 0
ComesFrom run rows x = (times : ℕ) × MergesTimes times run rows x

-- what the fold of all rows may leave: of no rows none (docs/engines.md, "Merges")
abbrev pub Leaves : (List Row → List Row → Type 0) → List Row → List Row → Type 0
Leaves run [] out = out ≡ []
Leaves run (row ∷ rows) out = run (row ∷ rows) out

-- what the fold of the rows may leave after any number of merges (docs/engines.md, "Merges")
pub record LeavesLater (run : List Row → List Row → Type 0) (rows out : List Row) : Type 0 where
  pub merged : List Row
  pub comes : ComesFrom run rows merged
  pub leaves : Leaves run merged out
