use Rattle.std.proofs.Common.{set, ap, ◌∙◌}
use Rattle.on_fly.specs.Updates.{updated_if}
use Rattle.on_fly.proofs.Steps.{all_are, next_is, next_was, none_yet}
use Rattle.on_fly.proofs.rows.update_rows.Goals as goal

pub loop-place-init : goal.loop-place-init
loop-place-init c = none_yet (updated_if c.args.assignments.now c.args.condition.now) c.args.rows.now

pub loop-place-preserved : goal.loop-place-preserved
loop-place-preserved c =
    let g = updated_if c.args.assignments.now c.args.condition.now in
    let was = c.args.rows.now in
    let now = c.loop-place.rows in
    let place = c.loop-place.place in
    let row = c.index-rows-place.result in
    let same = next_was g was now place row c.loop-place-test.true c.loop-place.invariant in
    ap (set now place) (c.in_ok-update_if.ensures ∙ ap g same) ∙ next_is g was now place row c.loop-place-test.true c.loop-place.invariant

pub returns : goal.returns
returns c = all_are (updated_if c.args.assignments.now c.args.condition.now) c.args.rows.now c.loop-place.rows c.loop-place.place c.loop-place-test.false c.loop-place.invariant
