-- the types of the columns gone over
use Rattle.std.proofs.Common.{◌≡◌, filter_map, slice_get, take}
use Rattle.mt_values.specs.Schemas.{column_types}
use Rattle.primary_marks.proofs.reading.primary_types.Given as goal

abbrev pub invariant-loop-place : goal.invariant-loop-place
invariant-loop-place l = l.types ≡ filter_map (slice_get (column_types l.schema)) (take l.place-index l.schema.primary)
