-- what is left of the key decides
use Rattle.std.proofs.Common.{◌≡◌, take, drop, nat_eq}
use Rattle.mt_values.specs.Schemas.{first_repeat, double_key_at, key_fault}
use Rattle.mt_values.proofs.schema.double_key.Given as goal

abbrev pub invariant-loop-place : goal.invariant-loop-place
invariant-loop-place l = first_repeat nat_eq double_key_at l.place (take l.place l.key) (drop l.place l.key) ≡ key_fault l.key
