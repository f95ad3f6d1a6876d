-- the partitions of the rows so far
use Rattle.std.proofs.Common.{◌≡◌, take}
use Rattle.part_history.specs.mt_model.Commands.{partitions_of}
use Rattle.mt_plain.proofs.partitions.partitions_of.Given as goal

abbrev pub invariant-loop-row : goal.invariant-loop-row
invariant-loop-row l = l.found.items ≡ partitions_of l.schema (take l.row-index l.rows)
