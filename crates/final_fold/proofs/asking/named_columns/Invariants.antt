-- the columns of the conjuncts gone over
use Rattle.std.proofs.Common.{◌≡◌, flat_map, take}
use Rattle.final_fold.specs.declared.asking.Conjunct.{Conjunct}
use Rattle.final_fold.specs.Asked.{tested}
use Rattle.final_fold.proofs.asking.named_columns.Given as goal

abbrev pub invariant-loop-conjunct : goal.invariant-loop-conjunct
invariant-loop-conjunct l = l.columns.items ≡ flat_map (λ (x : Conjunct). tested x.condition.now) (take l.conjunct-index l.conjuncts)
