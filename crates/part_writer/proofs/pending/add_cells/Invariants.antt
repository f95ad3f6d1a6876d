-- the values gone over are added
use Rattle.std.proofs.Common.{◌≡◌, ◌++◌, filter_map, slice_get, take}
use Rattle.part_writer.proofs.pending.add_cells.Given as goal

abbrev pub invariant-loop-place : goal.invariant-loop-place
invariant-loop-place l = l.column ≡ record l.initial.column { values = l.initial.column.values ++ filter_map (slice_get l.cells.values) (take l.place-index l.order) }
