use Rattle.primary_marks.proofs.KeyRowsOf.{keys_from_rows, rows_from_keys}
use Rattle.primary_marks.proofs.laws.keys_are_those_of_rows.Goals as goal

pub returns-clause-written : goal.returns-clause-written
returns-clause-written c = keys_from_rows

pub returns-clause-read : goal.returns-clause-read
returns-clause-read c = rows_from_keys
