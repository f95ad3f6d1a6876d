-- what is left of the names decides
use Rattle.std.proofs.Common.{◌≡◌, drop}
use Rattle.mt_model.specs.Clauses.{first_unknown}
use Rattle.mt_model.proofs.clauses.unknown_among.Given as goal

abbrev pub invariant-loop-name : goal.invariant-loop-name
invariant-loop-name l = first_unknown l.columns (drop l.name-index l.names) ≡ first_unknown l.columns l.names
