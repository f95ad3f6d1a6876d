use Rattle.mt_model.proofs.OneWay.{one_way}
use Rattle.mt_model.proofs.laws.scripts_run_in_one_way.Goals as goal

pub returns : goal.returns
returns c = one_way
