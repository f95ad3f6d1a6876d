use Rattle.sql_read.proofs.Growth.{whole_grows, whole_stays}
use Rattle.sql_read.proofs.laws.whole_statements_stay.Goals as goal

pub returns : goal.returns
returns c = record { next = whole_grows; whole = whole_stays }
