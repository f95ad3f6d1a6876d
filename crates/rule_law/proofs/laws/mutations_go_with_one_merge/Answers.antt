use Rattle.rule_law.proofs.PartlyChanged.{one_stays}
use Rattle.rule_law.proofs.laws.mutations_go_with_one_merge.Goals as goal

pub returns : goal.returns
returns c = λ schema table change may key rows out some all same run. one_stays schema table change may key rows out some all same run
