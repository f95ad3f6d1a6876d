-- the keys have the values wherever the part of the primary key that was gone over names the column
use Rattle.std.proofs.Common.{◌≡◌, ℕ, ◌<◌, Some, slice_get}
use Rattle.mt_values.specs.Grid.{column_of}
use Rattle.part_reader.proofs.comparing.are_keys.Given as goal

abbrev pub invariant-loop-place : goal.invariant-loop-place
invariant-loop-place l = (k : ℕ) → k < l.place → slice_get l.primary k ≡ Some l.number → column_of k l.marks ≡ l.firsts.values
