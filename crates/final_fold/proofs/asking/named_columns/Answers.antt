use Rattle.std.proofs.Common.{◌∙◌, ◌++◌, ap, flat_map, map, sym}
use Rattle.std.proofs.lemmas.List.{take_all}
use Rattle.mt_values.specs.declared.expr.Test.{Test}
use Rattle.final_fold.specs.declared.asking.Conjunct.{Conjunct}
use Rattle.final_fold.specs.Asked.{tested}
use Rattle.final_fold.proofs.Making.{flat_more}
use Rattle.final_fold.proofs.asking.named_columns.Goals as goal

pub loop-conjunct-preserved : goal.loop-conjunct-preserved
loop-conjunct-preserved c =
    c.in_ok-add_tested.ensures
    ∙ ap (λ ts. c.loop-conjunct.columns.items ++ map (λ (t : Test). t.column) ts) c.tests.ensures
    ∙ ap (λ cs. cs ++ tested c.conjunct-item.result.condition.now) c.loop-conjunct.invariant
    ∙ sym (flat_more (λ (x : Conjunct). tested x.condition.now) c.args.conjuncts.now c.loop-conjunct.conjunct-index c.conjunct-item.result c.loop-conjunct-test.true c.conjunct-item.is)

pub returns : goal.returns
returns c =
    c.loop-conjunct.invariant ∙ ap (flat_map (λ (x : Conjunct). tested x.condition.now)) (take_all c.loop-conjunct.conjunct-index c.args.conjuncts.now c.loop-conjunct-test.false)
