-- the columns among the elements gone over
use Rattle.std.proofs.Common.{◌≡◌, take}
use Rattle.mt_values.specs.Grammar.{columns_of}
use Rattle.mt_model.proofs.elements.columns_of.Given as goal

abbrev pub invariant-loop-element : goal.invariant-loop-element
invariant-loop-element l = l.columns ≡ columns_of (take l.element-index l.elements)
