-- the literal was asked of the values gone over
use Rattle.std.proofs.Common.{◌≡◌, Bool, length, map}
use Rattle.mt_values.specs.declared.value.Value.{Value}
use Rattle.mt_values.specs.Cells.{value_of}
use Rattle.mt_values.specs.Columns.{cells_of}
use Rattle.mt_values.specs.Lists.{run_of}
use Rattle.mt_values.specs.Order.{value_cmp}
use Rattle.mt_values.specs.Tests.{says}
use Rattle.mt_values.proofs.Masks.{gone_over}
use Rattle.mt_values.proofs.column.Cells.add_values.Given as goal

abbrev pub invariant-loop-place : goal.invariant-loop-place
invariant-loop-place l =
    (f : Value → Bool) → l.initial.mask ≡ map f (run_of l.from (length l.initial.mask) (cells_of l.self).values)
    → l.mask ≡ gone_over f (λ v. says l.comparison (value_cmp v (value_of l.literal))) (run_of l.from (length l.initial.mask) (cells_of l.self).values) l.place
