-- the numbers so far
use Rattle.std.proofs.Common.{◌≡◌, ◌-◌, length}
use Rattle.std.specs.List.{range_with_len}
use Rattle.row_merge.proofs.copied.count_to.Given as goal

abbrev pub invariant-numbers : goal.invariant-numbers
invariant-numbers l = l.order.items ≡ range_with_len 0 (length l.order.items)

abbrev pub decreases-numbers : goal.decreases-numbers
decreases-numbers l = l.count - length l.order.items
