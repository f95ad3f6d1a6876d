-- none of the parts gone over lies between
use Rattle.std.proofs.Common.{take}
use Rattle.std.specs.List.{All}
use Rattle.part_set.specs.Parts.{LiesBetween}
use Rattle.part_set.proofs.shelf.are_neighbours.Given as goal

abbrev pub invariant-loop-kept : goal.invariant-loop-kept
invariant-loop-kept g l = record {
  none : All (λ kept. LiesBetween l.a kept.name l.b → ⊥) (take l.kept-index l.parts);
  none_back : All (λ kept. LiesBetween l.b kept.name l.a → ⊥) (take l.kept-index l.parts);
}
