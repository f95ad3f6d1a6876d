-- the numbers gone over at which the mask is true were added
use Rattle.std.proofs.Common.{◌≡◌, ◌++◌, take}
use Rattle.mt_values.specs.Lists.{where_true}
use Rattle.mt_values.proofs.filtering.add_numbers_where.Given as goal

abbrev pub invariant-loop-place : goal.invariant-loop-place
invariant-loop-place g l =
    l.numbers.items ≡ l.initial.numbers.items ++ where_true (take l.place l.mask) (take l.place l.from)
