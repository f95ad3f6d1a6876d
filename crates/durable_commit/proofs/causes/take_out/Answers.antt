use Rattle.durable_commit.proofs.causes.take_out.Goals as goal

pub returns-clause-entries : goal.returns-clause-entries
returns-clause-entries g c = cc
