use Rattle.mt_model.proofs.Growing.{run_more}
use Rattle.mt_model.proofs.laws.runs_stay_as_histories_grow.Goals as goal

pub returns : goal.returns
returns c = run_more
