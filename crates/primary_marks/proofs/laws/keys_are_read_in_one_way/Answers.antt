use Rattle.primary_marks.proofs.KeysOneWay.{no_primary, one_primary}
use Rattle.primary_marks.proofs.laws.keys_are_read_in_one_way.Goals as goal

pub returns-clause-keys : goal.returns-clause-keys
returns-clause-keys c = one_primary

pub returns-clause-fault : goal.returns-clause-fault
returns-clause-fault c = no_primary
