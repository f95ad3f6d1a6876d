-- of the values gone over none is above the next one
use Rattle.std.specs.List.Sorted.{IsSortedWithin}
use Rattle.std.specs.Ordering.{is_lt}
use Rattle.mt_values.specs.Order.{value_cmp}
use Rattle.primary_marks.proofs.marks.rises.Given as goal

abbrev pub invariant-loop-place : goal.invariant-loop-place
invariant-loop-place l = IsSortedWithin (λ x y. is_lt (value_cmp x y)) l.column.values 0 l.place
