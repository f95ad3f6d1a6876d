-- those so far do not come after the row, and the number of those among the others is added
use Rattle.std.proofs.Common.{◌≡◌, ◌+◌, All, drop}
use Rattle.std.specs.List.{prefix_len}
use Rattle.std.specs.Ordering.{is_le}
use Rattle.mt_values.specs.Order.{HasPlaces, key_cmp}
use Rattle.row_merge.specs.Merged.{rows_of}
use Rattle.row_merge.proofs.order.count_up_to.Given as goal

abbrev pub invariant-loop-other : goal.invariant-loop-other
invariant-loop-other l = record {
  number : l.count ≡ l.other-index;
  more : HasPlaces l.places l.row → All (HasPlaces l.places) (rows_of l.rows)
      → prefix_len (λ other. is_le (key_cmp l.places other l.row)) (rows_of l.rows) ≡ l.count + prefix_len (λ other. is_le (key_cmp l.places other l.row)) (rows_of (drop l.other-index l.rows));
}
