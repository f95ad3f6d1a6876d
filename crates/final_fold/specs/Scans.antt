-- What is read of a table's parts (docs/architecture.md, "The way of a SELECT").
use Rattle.std.specs.Prelude.{◌≡◌, ◌<◌, ℕ, List, length, map, slice_get, filter_map, flat_map, All}
use Rattle.std.specs.List.{sum_by}
use Rattle.mt_values.specs.declared.schema.Schema.{Schema}
use Rattle.mt_values.specs.declared.value.Value.{Value}
use Rattle.mt_values.specs.Grid.{Cells, column_of}
use Rattle.mt_values.specs.Schemas.{column_types}
use Rattle.mt_values.specs.Values.{Row}
use Rattle.row_merge.specs.part_reader.declared.reading.Part.{Part}
use Rattle.row_merge.specs.part_set.declared.kept.Kept.{Kept}

-- each place is a column's
abbrev pub ArePlacesOf : Schema → List ℕ → Type 0
ArePlacesOf schema places = All (λ place. place < length schema.columns) places

-- the columns have the types of the table's columns at these places
abbrev pub HaveTypes : Schema → List ℕ → List Cells → Type 0
HaveTypes schema places columns = map (λ (c : Cells). c.col_type) columns ≡ filter_map (slice_get (column_types schema)) places

-- the values that rows have at these places, place by place
abbrev pub values_at : List Row → List ℕ → List (List Value)
values_at rows places = map (λ place. column_of place rows) places

-- rows of parts, one part after another
abbrev pub joined_rows : List (List Row) → List Row
joined_rows parts = flat_map (λ (part : List Row). part) parts

-- how many rows parts have, by what is kept of them
abbrev pub rows_kept : {F : Type 0} → List (Kept (Part F)) → ℕ
rows_kept {F} parts = sum_by (λ (k : Kept (Part F)). k.part.loaded.manifest.rows) parts
