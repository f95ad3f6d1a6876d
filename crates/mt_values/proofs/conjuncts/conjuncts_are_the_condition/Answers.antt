use Rattle.mt_values.proofs.Parting.{conjuncts_eval}
use Rattle.mt_values.proofs.conjuncts.conjuncts_are_the_condition.Goals as goal

pub returns : goal.returns
returns c = conjuncts_eval
