-- the rows so far
use Rattle.std.proofs.Common.{◌≡◌, take}
use Rattle.part_history.specs.mt_model.Commands.{rows_in}
use Rattle.mt_plain.proofs.partitions.rows_in.Given as goal

abbrev pub invariant-loop-row : goal.invariant-loop-row
invariant-loop-row l = l.own.items ≡ rows_in l.schema l.partition (take l.row-index l.rows)
