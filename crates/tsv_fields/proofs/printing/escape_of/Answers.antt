use Rattle.std.proofs.Common.{refl}
use Rattle.tsv_fields.proofs.printing.escape_of.Goals as goal

pub returns-in-39 : goal.returns-in-39
returns-in-39 c = rw c.in-39.is refl
