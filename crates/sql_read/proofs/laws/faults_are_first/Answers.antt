use Rattle.sql_read.proofs.FaultStatements.{deep_is_first, long_is_first, nothing_follows, wrong_is_first}
use Rattle.sql_read.proofs.laws.faults_are_first.Goals as goal

pub returns : goal.returns
returns c = record { wrong = wrong_is_first; long = long_is_first; deep = deep_is_first; whole = nothing_follows }
