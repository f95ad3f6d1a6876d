use Rattle.std.proofs.Common.{◌||◌}
use Rattle.predicate.proofs.Truths.{all_joined, none_joined, one_joined}
use Rattle.predicate.proofs.masks.unite.Goals as goal

pub loop-place-init : goal.loop-place-init
loop-place-init c = none_joined (λ x y. x || y) c.args.mask.now c.args.other.now c.requires

pub loop-place-preserved : goal.loop-place-preserved
loop-place-preserved c =
    one_joined (λ x y. x || y) c.args.mask.now c.args.other.now c.requires c.loop-place.mask c.loop-place.place c.loop-place-test.true c.loop-place.invariant

pub returns : goal.returns
returns c = all_joined (λ x y. x || y) c.args.mask.now c.args.other.now c.requires c.loop-place.mask c.loop-place.place c.loop-place-test.false c.loop-place.invariant
