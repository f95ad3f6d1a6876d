-- Keys whose first values rise (docs/architecture.md, "Spans of granules").
use Rattle.std.specs.Prelude.{◌<◌, List, [], ◌∷◌, length, All}
use Rattle.std.specs.List.Sorted.{IsSorted}
use Rattle.mt_values.specs.Grid.{Cells, column_of}
use Rattle.mt_values.specs.Order.{value_cmp}
use Rattle.mt_values.specs.Values.{Row}

-- each key has a first value, and none is above that of the next key (docs/architecture.md, "Spans of granules")
pub record RiseByFirst (keys : List Row) : Type 0 where
  pub some : All (λ (key : Row). 0 < length key) keys
  pub rising : IsSorted value_cmp (column_of 0 keys)

-- there is a first column, and none of its values is above the next one (docs/architecture.md, "Spans of granules")
abbrev pub FirstRises : List Cells → Type 0
FirstRises [] = ⊥
FirstRises (c ∷ cs) = IsSorted value_cmp c.values
