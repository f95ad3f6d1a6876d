-- the bytes of the values gone over are added
use Rattle.std.proofs.Common.{◌≡◌, ◌++◌, take}
use Rattle.mt_values.specs.ColumnBytes.{column_bytes}
use Rattle.skip_index.proofs.building.push_values.Given as goal

abbrev pub invariant-loop-value : goal.invariant-loop-value
invariant-loop-value l = l.bytes ≡ l.initial.bytes ++ column_bytes (take l.value-index l.values)
