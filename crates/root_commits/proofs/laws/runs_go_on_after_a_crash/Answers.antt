use Rattle.root_commits.proofs.StartedAgain.{one_length, started_again}
use Rattle.root_commits.proofs.laws.runs_go_on_after_a_crash.Goals as goal

pub returns-clause-one : goal.returns-clause-one
returns-clause-one c = one_length

pub returns-clause-again : goal.returns-clause-again
returns-clause-again c = λ told now clock mark later m start kept first again safe after. started_again told now clock mark later again m kept.list kept.begun first start safe after
