-- the indexes that the elements gone over write
use Rattle.std.proofs.Common.{◌≡◌, take}
use Rattle.mt_model.specs.Clauses.{indexes_written}
use Rattle.mt_model.proofs.elements.indexes_written.Given as goal

abbrev pub invariant-loop-element : goal.invariant-loop-element
invariant-loop-element l = l.indexes ≡ indexes_written l.columns (take l.element-index l.elements)
