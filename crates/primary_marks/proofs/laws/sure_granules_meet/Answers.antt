use Rattle.primary_marks.proofs.SkippedGranules.{asked_count, sure_meet}
use Rattle.primary_marks.proofs.laws.sure_granules_meet.Goals as goal

pub returns-clause-each : goal.returns-clause-each
returns-clause-each c = sure_meet

pub returns-clause-count : goal.returns-clause-count
returns-clause-count c = asked_count
