use Rattle.part_history.proofs.OwnRows.{own_rows}
use Rattle.part_history.proofs.laws.rows_are_of_their_partition.Goals as goal

pub returns : goal.returns
returns c = λ h table schema parts legal. own_rows h legal table schema parts
