-- the numbers at the places gone over, and room for the others
use Rattle.std.proofs.Common.{◌≡◌, length, take, slice_get, vec_len, vec_capacity}
use Rattle.std.specs.List.{filter_map}
use Rattle.mt_values.proofs.column.picked_numbers.Given as goal

abbrev pub invariant-loop-place : goal.invariant-loop-place
invariant-loop-place g l = record {
  picked : l.picked.items ≡ filter_map (slice_get l.numbers) (take l.place-index l.order);
  count : vec_len l.picked ≡ l.place-index;
  room : vec_capacity l.picked ≡ length l.order;
}
