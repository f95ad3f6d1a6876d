-- what is left of the elements decides
use Rattle.std.proofs.Common.{◌≡◌, drop}
use Rattle.mt_model.specs.Clauses.{first_unknown, indexed_names}
use Rattle.mt_model.proofs.elements.unknown_among_indexes.Given as goal

abbrev pub invariant-loop-element : goal.invariant-loop-element
invariant-loop-element l = first_unknown l.columns (indexed_names (drop l.element-index l.elements)) ≡ first_unknown l.columns (indexed_names l.elements)
