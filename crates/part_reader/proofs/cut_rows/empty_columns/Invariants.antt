-- a column without values for each place gone over
use Rattle.std.proofs.Common.{◌≡◌, [], filter_map, map, slice_get, take}
use Rattle.mt_values.specs.Grid.{Cells}
use Rattle.mt_values.specs.Schemas.{column_types}
use Rattle.part_reader.proofs.cut_rows.empty_columns.Given as goal

abbrev pub invariant-loop-place : goal.invariant-loop-place
invariant-loop-place l = record {
  types : map (λ (c : Cells). c.col_type) l.columns.items ≡ filter_map (slice_get (column_types l.schema)) (take l.place-index l.places);
  empty : map (λ (c : Cells). c.values) l.columns.items ≡ map (λ place. []) (take l.place-index l.places);
}
