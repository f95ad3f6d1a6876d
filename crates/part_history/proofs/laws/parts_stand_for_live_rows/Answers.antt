use Rattle.part_history.proofs.Joined.{parts_joined}
use Rattle.part_history.proofs.laws.parts_stand_for_live_rows.Goals as goal

pub returns : goal.returns
returns c = λ h table schema parts legal there stands order. parts_joined h table schema legal there parts stands order
