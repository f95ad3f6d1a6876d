use Rattle.primary_marks.proofs.Starts.{no_marks, one_marks}
use Rattle.primary_marks.proofs.laws.places_are_read_in_one_way.Goals as goal

pub returns-clause-places : goal.returns-clause-places
returns-clause-places c = one_marks

pub returns-clause-fault : goal.returns-clause-fault
returns-clause-fault c = no_marks
