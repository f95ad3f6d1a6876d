-- what is left of the clauses decides
use Rattle.std.proofs.Common.{◌≡◌, drop}
use Rattle.mt_model.specs.Clauses.{sorting_names}
use Rattle.mt_model.proofs.clauses.sorting_names.Given as goal

abbrev pub invariant-loop-clause : goal.invariant-loop-clause
invariant-loop-clause l = sorting_names (drop l.clause-index l.clauses) ≡ sorting_names l.clauses
