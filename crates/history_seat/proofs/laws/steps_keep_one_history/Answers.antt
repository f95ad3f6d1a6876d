use Rattle.history_seat.proofs.Lasting.{all_stays_known, all_steps_keep, step_keeps}
use Rattle.history_seat.proofs.laws.steps_keep_one_history.Goals as goal

pub returns-clause-step : goal.returns-clause-step
returns-clause-step c = step_keeps

pub returns-clause-steps : goal.returns-clause-steps
returns-clause-steps c = all_steps_keep

pub returns-clause-known : goal.returns-clause-known
returns-clause-known c = all_stays_known
