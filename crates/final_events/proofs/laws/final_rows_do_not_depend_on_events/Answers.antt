use Rattle.final_events.proofs.CoreRows.{events_fold, events_merge, same_rows}
use Rattle.final_events.proofs.laws.final_rows_do_not_depend_on_events.Goals as goal

pub returns-clause-merged : goal.returns-clause-merged
returns-clause-merged c = events_merge

pub returns-clause-folds : goal.returns-clause-folds
returns-clause-folds c = events_fold

pub returns-clause-same : goal.returns-clause-same
returns-clause-same c = same_rows
