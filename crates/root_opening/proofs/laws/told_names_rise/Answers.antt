use Rattle.root_store.proofs.Rising.{told_rise}
use Rattle.root_opening.proofs.laws.told_names_rise.Goals as goal

pub returns : goal.returns
returns c = told_rise
