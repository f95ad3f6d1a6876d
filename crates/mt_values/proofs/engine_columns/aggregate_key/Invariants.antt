-- what is left of the columns decides
use Rattle.std.proofs.Common.{◌≡◌, drop}
use Rattle.mt_values.specs.Engines.{aggregate_key_fault}
use Rattle.mt_values.proofs.engine_columns.aggregate_key.Given as goal

abbrev pub invariant-loop-place : goal.invariant-loop-place
invariant-loop-place l = aggregate_key_fault l.place l.key l.partition (drop l.place l.columns) ≡ aggregate_key_fault 0 l.key l.partition l.columns
