-- the places of what is left of the columns come after those that were found
use Rattle.std.proofs.Common.{◌≡◌, ◌++◌, drop}
use Rattle.mt_values.specs.Engines.{summable_from}
use Rattle.mt_values.proofs.engine_columns.summable_places.Given as goal

abbrev pub invariant-loop-place : goal.invariant-loop-place
invariant-loop-place l = l.places ++ summable_from l.place l.key l.partition (drop l.place l.columns) ≡ summable_from 0 l.key l.partition l.columns
