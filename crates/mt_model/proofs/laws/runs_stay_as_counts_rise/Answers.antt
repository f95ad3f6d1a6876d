use Rattle.mt_model.proofs.Rising.{run_risen}
use Rattle.mt_model.proofs.laws.runs_stay_as_counts_rise.Goals as goal

pub returns : goal.returns
returns c = λ n m h session statements from to out same later more others run. run_risen n m same later more others h session statements from to out run
