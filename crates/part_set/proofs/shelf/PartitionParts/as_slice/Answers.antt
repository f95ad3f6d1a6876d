use Rattle.part_set.proofs.shelf.PartitionParts.as_slice.Goals as goal

pub returns-clause-ordered : goal.returns-clause-ordered
returns-clause-ordered g c = rw (← c.self.view_is) c.self.invariant
