-- the places so far whose answers are false
use Rattle.std.proofs.Common.{◌≡◌}
use Rattle.on_fly.proofs.ByColumns.{unmet_before}
use Rattle.on_fly.proofs.blocks.places_unmet.Given as goal

abbrev pub invariant-loop-place : goal.invariant-loop-place
invariant-loop-place l = l.places.items ≡ unmet_before l.met l.place
