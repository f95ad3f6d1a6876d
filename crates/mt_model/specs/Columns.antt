-- Columns by their names (docs/definitions.md, "Schemas").
use Rattle.std.specs.Prelude.{ℕ, List, [], ◌∷◌, Option, Some, None, if◌then◌else◌, is_some}
use Rattle.std.specs.List.{filter_map, position}
use Rattle.mt_values.specs.declared.schema.Column.{Column}
use Rattle.mt_values.specs.Grammar.{same_bytes}

-- the place of the column of a name
abbrev pub column_place : List Column → List ℕ → Option ℕ
column_place columns name = position (λ (c : Column). same_bytes c.name name) columns

-- the first of the names that is no column's (docs/definitions.md, "Schemas")
abbrev pub first_unknown : List Column → List (List ℕ) → Option (List ℕ)
first_unknown columns [] = None
first_unknown columns (name ∷ names) = if is_some (column_place columns name) then first_unknown columns names else Some name

-- the places of those of the names that are columns' (docs/definitions.md, "Schemas")
abbrev pub places_named : List Column → List (List ℕ) → List ℕ
places_named columns names = filter_map (column_place columns) names
