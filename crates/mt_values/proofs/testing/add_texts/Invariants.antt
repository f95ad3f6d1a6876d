-- the literal was asked of the texts gone over
use Rattle.std.proofs.Common.{◌≡◌, ℕ, Bool, List, length, map}
use Rattle.std.specs.Cmp.Lexicographic.{slice_cmp}
use Rattle.std.specs.Ordering.{nat_cmp}
use Rattle.mt_values.specs.Lists.{run_of}
use Rattle.mt_values.specs.Tests.{says}
use Rattle.mt_values.proofs.Masks.{gone_over}
use Rattle.mt_values.proofs.testing.add_texts.Given as goal

abbrev pub invariant-loop-place : goal.invariant-loop-place
invariant-loop-place l =
    (f : List ℕ → Bool) → l.initial.mask ≡ map f (run_of l.from (length l.initial.mask) l.texts)
    → l.mask ≡ gone_over f (λ s. says l.comparison (slice_cmp nat_cmp s l.literal)) (run_of l.from (length l.initial.mask) l.texts) l.place
