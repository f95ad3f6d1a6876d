use Rattle.column_file.proofs.Tested.{spells_Decides}
use Rattle.column_file.proofs.laws.spellings_are_tested.Goals as goal

pub returns : goal.returns
returns c = spells_Decides
