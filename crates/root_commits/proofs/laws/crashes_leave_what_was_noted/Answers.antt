use Rattle.root_store.proofs.CrashMarks.{safe_at_start, safe_stands, safe_synced, stands_as_read}
use Rattle.root_commits.proofs.laws.crashes_leave_what_was_noted.Goals as goal

pub returns-clause-start : goal.returns-clause-start
returns-clause-start c = safe_at_start

pub returns-clause-now : goal.returns-clause-now
returns-clause-now c = safe_stands

pub returns-clause-as_read : goal.returns-clause-as_read
returns-clause-as_read c = stands_as_read

pub returns-clause-sync : goal.returns-clause-sync
returns-clause-sync c = safe_synced
