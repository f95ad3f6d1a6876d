-- of the names before the place, each stands below the next one
use Rattle.std.proofs.Common.{◌≡◌, ◌+◌, ◌<◌, ◌≤◌, List, ℕ, get_or}
use Rattle.std.specs.Cmp.Lexicographic.{slice_cmp}
use Rattle.std.specs.Ordering.{nat_cmp}
use Rattle.std.specs.declared.cmp.Ordering.TheVariants.{Less}
use Rattle.root_opening.proofs.opening.first_unsorted.Given as goal

abbrev pub invariant-loop-place : goal.invariant-loop-place
invariant-loop-place l = (1 ≤ l.place) × ((k : ℕ) (d : List ℕ) → k + 1 < l.place → slice_cmp nat_cmp (get_or l.texts k d) (get_or l.texts (k + 1) d) ≡ Less)
