use Rattle.mt_program.proofs.Chaining.{begins_empty, empty_stands, stamped_still, started_again, starts_next, stands_calm}
use Rattle.mt_program.proofs.laws.premises_are_met.Goals as goal

pub returns-clause-empty : goal.returns-clause-empty
returns-clause-empty c = λ w script disk annals source sink. (begins_empty w script disk annals source sink, empty_stands _, empty_stands _)

pub returns-clause-next : goal.returns-clause-next
returns-clause-next c = starts_next

pub returns-clause-calm : goal.returns-clause-calm
returns-clause-calm c = stands_calm

pub returns-clause-stamped : goal.returns-clause-stamped
returns-clause-stamped c = stamped_still

pub returns-clause-crash : goal.returns-clause-crash
returns-clause-crash c = started_again
