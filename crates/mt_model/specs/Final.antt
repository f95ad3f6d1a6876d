-- What a SELECT sees of a table's live rows (docs/definitions-of-runs.md, "Answers"; ClickHouse, SELECT: FINAL).
use Rattle.std.specs.Prelude.{◌≡◌, Bool, true, false, List}
use Rattle.std.specs.List.{Contains}
use Rattle.mt_base.specs.declared.partition.Partition.{Partition}
use Rattle.mt_values.specs.declared.engine.Engine.{Engine}
use Rattle.mt_values.specs.declared.engine.Engine.TheVariants as engine
use Rattle.mt_values.specs.declared.schema.Schema.{Schema}
use Rattle.mt_values.specs.Values.{Row}
use Rattle.mt_model.specs.Folding.{Leaves}
use Rattle.mt_model.specs.Live.{of_key}
use Rattle.mt_model.specs.Partial.{Partly, functions_of}
use Rattle.mt_model.specs.Rules.{Folds, alternate, is_state, with_sums}

-- what FINAL may leave of at least one row of one partition and key of the table (docs/engines.md, "FINAL"; ClickHouse, SELECT: FINAL)
abbrev pub TableFolds : Schema → List Row → List Row → Type 0
TableFolds schema rows out = Folds schema.engine (functions_of schema) rows out

-- of each partition and key there is what FINAL may leave of the live rows of them (docs/engines.md, "FINAL"; ClickHouse, SELECT: FINAL)
abbrev pub FoldsAll : Schema → List Row → List Row → Type 0
FoldsAll schema live out = (partition : Partition) (row : Row) → Leaves (TableFolds schema) (of_key schema partition row live) (of_key schema partition row out)

-- with FINAL each key is folded wholly, without it as far as merges went (docs/definitions-of-runs.md, "Answers"; ClickHouse, SELECT: FINAL)
abbrev pub Sees : Schema → Bool → List Row → List Row → Type 0
Sees schema true live rows = FoldsAll schema live rows
Sees schema false live rows = Partly schema live rows

-- ---- where there is one thing that FINAL can leave

-- Rows of one key fold to one thing at least where this holds: the signs of a collapsing key alternate; of one key and version all states are the same row, and so are all cancels; rows that
-- are summed are the same with the sums in them. Of the other engines rows of one key always do (docs/engines.md, "FINAL").
abbrev pub FoldOnce : Engine → List Row → Type 0
FoldOnce (engine.Collapsing sign) rows = alternate sign rows ≡ true
FoldOnce (engine.Versioned sign version) rows = (a b : Row) → Contains rows a → Contains rows b → is_state sign a ≡ is_state sign b → a ≡ b
FoldOnce (engine.Summing places) rows = (a b : Row) → Contains rows a → Contains rows b → with_sums places rows a ≡ with_sums places rows b
FoldOnce e rows = Unit {0}

-- the live rows of each partition and key do (docs/engines.md, "FINAL")
abbrev pub KeysFoldOnce : Schema → List Row → Type 0
KeysFoldOnce schema live = (partition : Partition) (row : Row) → FoldOnce schema.engine (of_key schema partition row live)
