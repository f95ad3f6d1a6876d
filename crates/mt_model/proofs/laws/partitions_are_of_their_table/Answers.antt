use Rattle.mt_values.proofs.RowPartitions.{row_has_partition, values_fit}
use Rattle.mt_model.proofs.Commands.{own_partition}
use Rattle.mt_model.proofs.laws.partitions_are_of_their_table.Goals as goal

pub returns : goal.returns
returns c = record {
  row = λ schema row table types values. row_has_partition schema row table.sound types (values_fit row values);
  insert = own_partition;
}
