-- the values of the rows so far
use Rattle.std.proofs.Common.{◌≡◌, Bool, filter_map, map, Some, slice_get, take}
use Rattle.mt_values.specs.Values.{Row}
use Rattle.on_fly.specs.Updates.{put_value}
use Rattle.on_fly.proofs.blocks.assigned_column.Given as goal

abbrev pub invariant-loop-row : goal.invariant-loop-row
invariant-loop-row l = record {
  typed : slice_get l.block.types l.place ≡ Some l.column.col_type;
  values : (meets : Row → Bool) → l.met ≡ map meets l.block.rows
      → l.column.values ≡ filter_map (λ row. put_value l.place l.assigned (meets row) row) (take l.row l.block.rows);
}
