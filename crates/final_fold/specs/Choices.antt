-- What several answers of FINAL have in common where a rule leaves a choice (docs/engines.md, "FINAL").
use Rattle.std.specs.Prelude.{ℕ, ℤ, List, [], ◌∷◌, Option, map, slice_get}
use Rattle.mt_values.specs.declared.value.Value.{Value}
use Rattle.mt_values.specs.Grid.{column_of}
use Rattle.mt_values.specs.Values.{Row}
use Rattle.row_merge.specs.mt_model.Rules.{total}

-- the numbers of a row in summed columns (docs/engines.md, "Sums")
abbrev pub sums_of : List ℕ → Row → List ℤ
sums_of places row = map (λ place. total (column_of place (row ∷ []))) places

-- the signs of rows (docs/engines.md, "VersionedCollapsingMergeTree")
abbrev pub signs_of : ℕ → List Row → List (Option Value)
signs_of sign rows = map (λ (row : Row). slice_get row sign) rows
