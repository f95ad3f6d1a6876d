use Rattle.column_file.proofs.Marked.{granule_spelled}
use Rattle.column_file.proofs.laws.granules_are_spelled.Goals as goal

pub returns : goal.returns
returns c = granule_spelled
