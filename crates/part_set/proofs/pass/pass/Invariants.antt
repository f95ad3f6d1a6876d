-- the parts gone over are covered by those that are kept, which stand in block order
use Rattle.part_set.specs.Parts.{IsInBlockOrder}
use Rattle.part_set.specs.Shelf.{all_parts}
use Rattle.part_set.proofs.Passes.{Passed}
use Rattle.part_set.proofs.pass.pass.Given as goal

abbrev pub invariant-loop-part : goal.invariant-loop-part
invariant-loop-part l = record {
  passed : Passed l.parts l.part-index (all_parts l.kept);
  ordered : IsInBlockOrder (all_parts l.kept);
}
