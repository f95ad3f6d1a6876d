use Rattle.std.proofs.Common.{List, subst, ◌∙◌}
use Rattle.std.specs.List.{Contains}
use Rattle.std.proofs.lemmas.List.{take_all}
use Rattle.mt_values.specs.Values.{Row}
use Rattle.mt_plain.specs.Outcomes.{AddsExactly}
use Rattle.mt_plain.proofs.Merging.{adds_more, adds_none}
use Rattle.mt_plain.proofs.merges.add_each.Goals as goal

pub loop-list-init : goal.loop-list-init
loop-list-init c = adds_none c.args.found.now.items

pub loop-list-preserved : goal.loop-list-preserved
loop-list-preserved c =
    adds_more c.args.found.now.items c.loop-list.found.items c.add_new.new.found.items c.args.more.now c.loop-list.list-index c.list-item.result c.in_ok-twin.field-0 c.loop-list-test.true
    (c.in_ok-twin.ensures ∙ c.list-item.is) c.loop-list.invariant c.in_ok-add_new.ensures

pub returns : goal.returns
returns c = subst (λ (zs : List (List Row)). AddsExactly c.args.found.now.items c.loop-list.found.items (Contains zs)) (take_all c.loop-list.list-index c.args.more.now c.loop-list-test.false) c.loop-list.invariant
