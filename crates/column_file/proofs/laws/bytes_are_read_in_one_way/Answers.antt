use Rattle.column_file.proofs.OneWay.{one_spelling, no_spelling, one_place}
use Rattle.column_file.proofs.laws.bytes_are_read_in_one_way.Goals as goal

pub returns-clause-values : goal.returns-clause-values
returns-clause-values c = one_spelling

pub returns-clause-fault : goal.returns-clause-fault
returns-clause-fault c = no_spelling

pub returns-clause-place : goal.returns-clause-place
returns-clause-place c = one_place
