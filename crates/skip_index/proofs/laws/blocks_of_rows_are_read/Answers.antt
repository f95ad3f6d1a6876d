use Rattle.skip_index.proofs.Written.{index_written}
use Rattle.skip_index.proofs.laws.blocks_of_rows_are_read.Goals as goal

pub returns : goal.returns
returns c = index_written
