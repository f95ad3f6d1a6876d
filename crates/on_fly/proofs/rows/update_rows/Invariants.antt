-- the rows gone over are updated
use Rattle.std.proofs.Common.{◌≡◌}
use Rattle.on_fly.specs.Updates.{updated_if}
use Rattle.on_fly.proofs.Steps.{half}
use Rattle.on_fly.proofs.rows.update_rows.Given as goal

abbrev pub invariant-loop-place : goal.invariant-loop-place
invariant-loop-place l = l.rows ≡ half (updated_if l.assignments l.condition) l.initial.rows l.place
