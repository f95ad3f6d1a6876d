-- the commands of the partitions so far
use Rattle.std.proofs.Common.{◌≡◌, map, take}
use Rattle.part_history.specs.mt_model.Commands.{insert_command}
use Rattle.mt_plain.proofs.commands.commands_of_rows.Given as goal

abbrev pub invariant-loop-partition : goal.invariant-loop-partition
invariant-loop-partition l = l.commands.items ≡ map (insert_command l.schema l.table l.rows) (take l.partition-index l.partition-items)
