-- what is left of the clauses decides
use Rattle.std.proofs.Common.{◌≡◌, drop}
use Rattle.mt_model.specs.Clauses.{granularity_of}
use Rattle.mt_model.proofs.clauses.granularity_of.Given as goal

abbrev pub invariant-loop-clause : goal.invariant-loop-clause
invariant-loop-clause l = granularity_of (drop l.clause-index l.clauses) ≡ granularity_of l.clauses
