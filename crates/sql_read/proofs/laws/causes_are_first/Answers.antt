use Rattle.sql_read.proofs.FaultStatements.{depth_is_first, grammar_is_first, long_name_is_first}
use Rattle.sql_read.proofs.laws.causes_are_first.Goals as goal

pub returns : goal.returns
returns c = record { grammar = grammar_is_first; long = long_name_is_first; deep = depth_is_first }
