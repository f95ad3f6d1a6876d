use Rattle.part_set.proofs.NameTexts.{root_names_same}
use Rattle.part_set.proofs.laws.root_names_are_told_apart.Goals as goal

pub returns : goal.returns
returns c = root_names_same
