-- the elements gone over pass no bound, and what is left decides
use Rattle.mt_model.proofs.ElementLists.{GoneOver}
use Rattle.mt_model.proofs.elements.bound_passed.Given as goal

abbrev pub invariant-loop-element : goal.invariant-loop-element
invariant-loop-element l = GoneOver l.elements l.element-index l.columns l.indexes
