use Rattle.part_set.proofs.Freeing.{freed_ordered}
use Rattle.part_set.proofs.shelf.PartitionParts.clear_all.Goals as goal

pub invariant_of-self : goal.invariant_of-self
invariant_of-self g c = rw c.mark_all.ensures.items (freed_ordered c.self.inside.parts.items c.self.invariant)
