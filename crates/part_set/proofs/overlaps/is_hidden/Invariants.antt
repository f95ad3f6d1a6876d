-- no name gone over hides the part
use Rattle.std.specs.List.{AllWithin}
use Rattle.part_set.specs.Clashes.{Hides}
use Rattle.part_set.proofs.overlaps.is_hidden.Given as goal

abbrev pub invariant-loop-name : goal.invariant-loop-name
invariant-loop-name l = AllWithin (λ name. Hides name l.part → ⊥) l.names 0 l.name-index
