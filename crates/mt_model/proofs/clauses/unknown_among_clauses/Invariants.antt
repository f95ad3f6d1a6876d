-- what is left of the clauses decides
use Rattle.std.proofs.Common.{◌≡◌, drop}
use Rattle.mt_model.specs.Clauses.{first_unknown, mentioned}
use Rattle.mt_model.proofs.clauses.unknown_among_clauses.Given as goal

abbrev pub invariant-loop-clause : goal.invariant-loop-clause
invariant-loop-clause l = first_unknown l.columns (mentioned (drop l.clause-index l.clauses)) ≡ first_unknown l.columns (mentioned l.clauses)
