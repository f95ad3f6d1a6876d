use Rattle.mt_model.proofs.Commands.{have_rows}
use Rattle.mt_model.proofs.Parted.{worked_partitions, worked_rows}
use Rattle.mt_model.proofs.laws.inserts_are_parted.Goals as goal

pub returns : goal.returns
returns c = record { rows = have_rows; worked = worked_partitions; worked_rows = worked_rows }
