-- what is left of the clauses decides
use Rattle.std.proofs.Common.{◌≡◌, drop}
use Rattle.mt_model.specs.Clauses.{partition_name}
use Rattle.mt_model.proofs.clauses.partition_place.Given as goal

abbrev pub invariant-loop-clause : goal.invariant-loop-clause
invariant-loop-clause l = partition_name (drop l.clause-index l.clauses) ≡ partition_name l.clauses
