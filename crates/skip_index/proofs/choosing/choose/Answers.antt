use Rattle.std.proofs.Common.{◌≡◌, IfOk, subst, ◌∙◌}
use Rattle.skip_index.proofs.Spread.{spread_is}
use Rattle.skip_index.proofs.choosing.choose.Goals as goal

pub returns : goal.returns
returns c =
    let same = spread_is c.args.index.now c.args.condition.now c.args.unknown.now _ _ (c.deref.ensures.value ∙ c.in_ok-answers.ensures) c.may_match_column-untold.ensures in
    subst (λ bs. IfOk c.spread.result (λ v. v.items ≡ bs)) same c.spread.ensures
