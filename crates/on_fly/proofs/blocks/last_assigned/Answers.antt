use Rattle.std.proofs.Common.{ap, refl, sym, ◌∙◌}
use Rattle.std.proofs.lemmas.List.{take_all}
use Rattle.on_fly.specs.Updates.{last_assigned}
use Rattle.on_fly.proofs.ByColumns.{last_next, last_stays}
use Rattle.on_fly.proofs.blocks.last_assigned.Goals as goal

pub loop-assignment-init : goal.loop-assignment-init
loop-assignment-init c = refl

pub loop-assignment-preserved-then-assignment-place : goal.loop-assignment-preserved-then-assignment-place
loop-assignment-preserved-then-assignment-place c =
    let i = c.loop-assignment.assignment-index in
    c.loop-assignment.invariant ∙ sym (last_stays c.args.place c.args.assignments.now i c.assignment-item.result c.loop-assignment-test.true c.assignment-item.is c.if-assignment-place.true)

pub loop-assignment-preserved : goal.loop-assignment-preserved
loop-assignment-preserved c =
    let i = c.loop-assignment.assignment-index in
    sym (last_next c.args.place c.args.assignments.now i c.assignment-item.result c.loop-assignment-test.true c.assignment-item.is c.if-assignment-place.false)

pub returns : goal.returns
returns c =
    c.loop-assignment.invariant ∙ ap (last_assigned c.args.place) (take_all c.loop-assignment.assignment-index c.args.assignments.now c.loop-assignment-test.false)
