-- what is left of the clauses decides
use Rattle.std.proofs.Common.{◌≡◌, drop}
use Rattle.mt_model.specs.Clauses.{given_primary}
use Rattle.mt_model.proofs.clauses.primary_names.Given as goal

abbrev pub invariant-loop-clause : goal.invariant-loop-clause
invariant-loop-clause l = given_primary (drop l.clause-index l.clauses) ≡ given_primary l.clauses
