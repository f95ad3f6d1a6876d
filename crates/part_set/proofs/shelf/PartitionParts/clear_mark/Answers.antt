use Rattle.std.proofs.Common.{◌∷◌, []}
use Rattle.part_set.proofs.Clearing.{clear_ordered}
use Rattle.part_set.proofs.shelf.PartitionParts.clear_mark.Goals as goal

pub invariant_of-self : goal.invariant_of-self
invariant_of-self g c = rw c.clear_named.ensures.items (clear_ordered (c.args.name.now ∷ []) c.self.inside.parts.items c.self.invariant)
