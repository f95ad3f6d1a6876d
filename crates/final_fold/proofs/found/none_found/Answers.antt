use Rattle.std.proofs.Common.{arith, refl}
use Rattle.final_fold.proofs.found.none_found.Goals as goal

pub returns-clause-found : goal.returns-clause-found
returns-clause-found c = record { wanted = c.requires.wanted; columns = c.in_ok-columns.ensures.types; few = omega arith }

pub returns-clause-none : goal.returns-clause-none
returns-clause-none c = record { values = c.in_ok-columns.ensures.empty; counted = refl }
