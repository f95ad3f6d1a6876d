use Rattle.std.proofs.Common.{◌≡◌, ◌<◌, ◌++◌, ◌∷◌, [], drop, length, get_or, map, subst, sym, take, ◌+◌, arith, rules}
use Rattle.std.specs.Prelude.{slice_set}
use Rattle.std.proofs.lemmas.List.{get_or_default}
use Rattle.std.proofs.lemmas.List.Edits.{map_over_more}
use Rattle.part_set.specs.declared.kept.Kept.{Kept}
use Rattle.part_set.specs.Runs.{cleared}
use Rattle.part_set.proofs.Clearing.{cleared_told}
use Rattle.part_set.proofs.shelf.clear.Goals as goal

pub loop-kept-preserved : goal.loop-kept-preserved
loop-kept-preserved g c =
    let parts = c.loop-kept.parts in
    let at = c.loop-kept.kept-index in
    let inside : at < length parts = omega (arith, c.loop-kept.auto.parts, c.loop-kept-test.true) in
    let kept = get_or parts at c.kept-item.result in
    let told = cleared_told c.args.name.now kept c.ne-other.result (λ is. search rules) (λ is. search rules) in
    subst (λ (k : Kept g.row.P.Denot). slice_set parts at k ≡ map (cleared (c.args.name.now ∷ [])) (take (at + 1) c.args.parts.now) ++ drop (at + 1) c.args.parts.now) (sym told)
    (map_over_more (cleared (c.args.name.now ∷ [])) c.args.parts.now parts at kept c.loop-kept-test.true c.loop-kept.invariant (get_or_default parts at c.kept-item.result kept inside))
