use Rattle.primary_marks.proofs.SkippedGranules.{chosen_all, chosen_count, skipped_empty}
use Rattle.primary_marks.proofs.laws.skipped_granules_hold_no_match.Goals as goal

pub returns-clause-each : goal.returns-clause-each
returns-clause-each c = skipped_empty

pub returns-clause-all : goal.returns-clause-all
returns-clause-all c = chosen_all

pub returns-clause-count : goal.returns-clause-count
returns-clause-count c = chosen_count
