-- the values so far, and those of the rest of the row
use Rattle.std.proofs.Common.{◌≡◌, ◌++◌, drop}
use Rattle.part_history.specs.mt_model.Rules.{with_sums, with_sums_from}
use Rattle.mt_plain.proofs.sums.with_sums.Given as goal

abbrev pub invariant-loop-place : goal.invariant-loop-place
invariant-loop-place l = l.sums ++ with_sums_from l.place l.places l.rows (drop l.place l.row) ≡ with_sums l.places l.rows l.row
