-- what is left of the skip indexes decides
use Rattle.std.proofs.Common.{◌≡◌, take, drop}
use Rattle.mt_values.specs.Schemas.{first_repeat, same_index_name, double_index_at, index_fault}
use Rattle.mt_values.proofs.schema.double_index.Given as goal

abbrev pub invariant-loop-place : goal.invariant-loop-place
invariant-loop-place l = first_repeat same_index_name double_index_at l.place (take l.place l.indexes) (drop l.place l.indexes) ≡ index_fault l.indexes
