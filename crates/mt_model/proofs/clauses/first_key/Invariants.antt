-- what is left of the clauses decides
use Rattle.std.proofs.Common.{◌≡◌, drop}
use Rattle.mt_model.specs.Clauses.{first_key}
use Rattle.mt_model.proofs.clauses.first_key.Given as goal

abbrev pub invariant-loop-clause : goal.invariant-loop-clause
invariant-loop-clause l = first_key (drop l.clause-index l.clauses) ≡ first_key l.clauses
