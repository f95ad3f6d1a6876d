use Rattle.part_history.proofs.Merging.{merged_order, merged_stand}
use Rattle.part_history.proofs.laws.merged_parts_stand.Goals as goal

pub returns : goal.returns
returns c = record { stand = merged_stand; order = merged_order }
