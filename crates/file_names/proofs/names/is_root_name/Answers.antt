use Rattle.std.proofs.Common.{refl}
use Rattle.file_names.proofs.names.is_root_name.Goals as goal

pub returns-in_default : goal.returns-in_default
returns-in_default c = rw (← c.first.ensures.value, c.in-Some.is, c.if-first-ne46.false) refl

pub returns-in_default-2 : goal.returns-in_default-2
returns-in_default-2 c = rw (← c.first.ensures.value, c.in_default.is) refl
