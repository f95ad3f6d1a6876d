use Rattle.mt_values.proofs.RowPartitions.{row_has_partition}
use Rattle.mt_values.proofs.partitions.rows_have_partitions_of_their_table.Goals as goal

pub returns : goal.returns
returns c = row_has_partition
