-- the literal was asked of the numbers gone over
use Rattle.std.proofs.Common.{◌≡◌, Bool, map}
use Rattle.mt_values.specs.Tests.{says}
use Rattle.mt_values.proofs.Masks.{gone_over}
use Rattle.mt_values.proofs.testing.add_numbers.Given as goal

abbrev pub invariant-loop-place : goal.invariant-loop-place
invariant-loop-place g l =
    (f : g.row.T.Denot → Bool) → l.initial.mask ≡ map f l.numbers
    → l.mask ≡ gone_over f (λ n. says l.comparison (g.T.Ord.cmp n l.literal)) l.numbers l.place
