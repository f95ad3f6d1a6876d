use Rattle.std.proofs.Common.{◌∙◌, ap, replicate}
use Rattle.mt_model.specs.predicate.declared.extent.Can.{Can}
use Rattle.mt_model.proofs.PredicateNarrowing.{untested}
use Rattle.select_plan.proofs.choosing.plan_alike.Goals as goal

pub returns : goal.returns
returns c = λ e.
    c.in_ok-vec.ensures.items_if_clones_equal (λ y is. is)
    ∙ ap (replicate c.args.granules) (c.may_match-is_read.ensures ∙ ap (λ (k : Can). k.yes) (untested c.args.condition.now _ e c.requires))
