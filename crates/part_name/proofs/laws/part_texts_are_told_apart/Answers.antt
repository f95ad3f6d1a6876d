use Rattle.part_name.proofs.Texts.{names_same}
use Rattle.part_name.proofs.laws.part_texts_are_told_apart.Goals as goal

pub returns : goal.returns
returns c = names_same
