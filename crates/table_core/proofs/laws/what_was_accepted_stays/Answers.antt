use Rattle.table_core.proofs.Telling.{run_accepted, run_entries, run_history}
use Rattle.table_core.proofs.laws.what_was_accepted_stays.Goals as goal

pub returns : goal.returns
returns c = record { history = run_history; accepted = run_accepted; entries = run_entries }
