-- what is left of both keys decides
use Rattle.std.proofs.Common.{◌≡◌, drop}
use Rattle.mt_values.specs.Schemas.{prefix_fault}
use Rattle.mt_values.proofs.schema.not_prefix.Given as goal

abbrev pub invariant-loop-place : goal.invariant-loop-place
invariant-loop-place l = prefix_fault (drop l.place l.key) (drop l.place l.primary) ≡ prefix_fault l.key l.primary
