use Rattle.predicate.proofs.Lying.{hides}
use Rattle.predicate.proofs.laws.boxes_hide_no_match.Goals as goal

pub returns-clause-yes : goal.returns-clause-yes
returns-clause-yes c = λ condition e row lies has m. (hides e row lies condition has).0 m

pub returns-clause-no : goal.returns-clause-no
returns-clause-no c = λ condition e row lies has m. (hides e row lies condition has).1 m
