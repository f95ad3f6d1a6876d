use Rattle.session.proofs.RunsEach.{has_run_each, run_ends_each}
use Rattle.session.proofs.laws.statements_that_ran_are_a_run.Goals as goal

pub returns-clause-run : goal.returns-clause-run
returns-clause-run g c = λ files_of statements replies old new session own_is ran.
    has_run_each files_of g.B.Names.given g.B.Room.before g.B.Names.opening g.B.Names.ledgers.parts statements replies old new session own_is ran

pub returns-clause-ends : goal.returns-clause-ends
returns-clause-ends g c = λ files_of statements last replies old new session own_is ran.
    run_ends_each files_of g.B.Names.given g.B.Room.before g.B.Names.opening g.B.Names.ledgers.parts statements last replies old new session own_is ran
