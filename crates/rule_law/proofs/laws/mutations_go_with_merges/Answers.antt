use Rattle.rule_law.proofs.PartlyChanged.{partly_mutated}
use Rattle.rule_law.proofs.laws.mutations_go_with_merges.Goals as goal

pub returns : goal.returns
returns c = λ schema table mutations may live rows all partly. partly_mutated schema table mutations may live rows all partly
