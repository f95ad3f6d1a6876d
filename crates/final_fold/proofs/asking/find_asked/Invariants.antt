-- those found among the conjuncts gone over, before those among the others
use Rattle.std.proofs.Common.{◌≡◌, ◌++◌, drop, map}
use Rattle.final_fold.specs.declared.asking.Conjunct.{Conjunct}
use Rattle.final_fold.specs.Asked.{asked_somewhere}
use Rattle.final_fold.proofs.asking.find_asked.Given as goal

abbrev pub invariant-loop-number : goal.invariant-loop-number
invariant-loop-number l =
    map (λ (x : Conjunct). (x.condition.now, x.granules.now)) l.found.items ++ asked_somewhere (drop l.number l.conjuncts) (drop l.number l.asked)
    ≡ asked_somewhere l.conjuncts l.asked
