use Rattle.part_set.proofs.Swaps.{marked_ordered}
use Rattle.part_set.proofs.shelf.PartitionParts.set_busy.Goals as goal

pub invariant_of-self : goal.invariant_of-self
invariant_of-self g c = rw c.mark_run.ensures.items (marked_ordered c.args.run c.args.busy c.self.inside.parts.items c.self.invariant)

pub returns-clause-ordered : goal.returns-clause-ordered
returns-clause-ordered g c = rw c.mark_run.ensures.items (marked_ordered c.args.run c.args.busy c.self.inside.parts.items c.self.invariant)
