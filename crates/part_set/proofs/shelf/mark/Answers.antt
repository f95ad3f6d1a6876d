use Rattle.std.proofs.Common.{◌<◌, length, get_or, arith}
use Rattle.std.proofs.lemmas.List.{get_or_default}
use Rattle.std.proofs.lemmas.List.Edits.{map_over_more}
use Rattle.part_set.specs.Runs.{with_mark}
use Rattle.part_set.proofs.shelf.mark.Goals as goal

pub loop-kept-preserved : goal.loop-kept-preserved
loop-kept-preserved g c =
    let parts = c.loop-kept.parts in
    let at = c.loop-kept.kept-index in
    let inside : at < length parts = omega (arith, c.loop-kept.auto.parts, c.loop-kept-test.true) in
    let kept = get_or parts at c.kept-item.result in
    map_over_more (with_mark c.args.busy) c.args.parts.now parts at kept c.loop-kept-test.true c.loop-kept.invariant (get_or_default parts at c.kept-item.result kept inside)
