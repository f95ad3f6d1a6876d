use Rattle.mt_model.specs.Commands.{partitions_of}
use Rattle.block_split.proofs.Inserting.{commands_split}
use Rattle.block_split.proofs.laws.commands_are_of_the_split_rows.Goals as goal

pub returns : goal.returns
returns c = λ schema table rows. commands_split schema table rows (partitions_of schema rows)
