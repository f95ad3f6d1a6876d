use Rattle.std.proofs.Common.{◌≡◌, ◌∙◌, ◌||◌, false, ap, get_or, set}
use Rattle.mt_values.specs.Tests.{says}
use Rattle.mt_values.proofs.Masks.{all_gone_over, none_gone_over, one_more}
use Rattle.mt_values.proofs.testing.add_numbers.Goals as goal

pub loop-place-init : goal.loop-place-init
loop-place-init g c = λ f e. e ∙ none_gone_over f (λ n. says c.args.comparison (g.T.Ord.cmp n c.args.literal)) c.args.numbers.now

pub loop-place-preserved : goal.loop-place-preserved
loop-place-preserved g c = λ f e.
    let said : c.says.result ≡ says c.args.comparison (g.T.Ord.cmp c.index-numbers-place.result c.args.literal) =
    c.says.ensures ∙ ap (says c.args.comparison) c.cmp.ensures in
    ap (λ b. set c.loop-place.mask c.loop-place.place (get_or c.loop-place.mask c.loop-place.place false || b)) said
    ∙ one_more f (λ n. says c.args.comparison (g.T.Ord.cmp n c.args.literal)) c.args.numbers.now c.loop-place.place c.index-numbers-place.result c.loop-place.mask c.loop-place-test.true c.index-numbers-place.is (c.loop-place.invariant f e)

pub returns : goal.returns
returns g c = λ f e.
    all_gone_over f (λ n. says c.args.comparison (g.T.Ord.cmp n c.args.literal)) c.args.numbers.now c.loop-place.place c.loop-place.mask c.loop-place-test.false (c.loop-place.invariant f e)
