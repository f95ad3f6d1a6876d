use Rattle.part_history.proofs.Portions.{portions_stand}
use Rattle.part_history.proofs.laws.parts_are_portions.Goals as goal

pub returns : goal.returns
returns c = λ h table schema parts there. portions_stand h table schema there parts
