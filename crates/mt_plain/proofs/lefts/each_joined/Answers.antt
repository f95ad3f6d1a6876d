use Rattle.std.proofs.Common.{◌++◌, List, ap, ap₂, map, sym, ◌∙◌}
use Rattle.mt_values.specs.Values.{Row}
use Rattle.mt_plain.proofs.LeftRows.{flat_more}
use Rattle.mt_plain.proofs.lefts.each_joined.Goals as goal

pub loop-first-preserved : goal.loop-first-preserved
loop-first-preserved c =
    let own : List Row → List (List Row) = λ first. map (λ (list : List Row). first ++ list) c.args.lists.now in
    let more = c.in_ok-more.ensures ∙ ap own (c.as_slice.ensures ∙ c.first-item.is) in
    c.in_ok-append.ensures.items ∙ ap₂ (λ (a b : List (List Row)). a ++ b) c.loop-first.invariant more
    ∙ sym (flat_more own c.args.firsts.now c.loop-first.first-index c.first-item.result c.loop-first-test.true)
