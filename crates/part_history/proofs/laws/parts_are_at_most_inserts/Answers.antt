use Rattle.part_history.proofs.Counted.{parts_at_most}
use Rattle.part_history.proofs.laws.parts_are_at_most_inserts.Goals as goal

pub returns : goal.returns
returns c = parts_at_most
