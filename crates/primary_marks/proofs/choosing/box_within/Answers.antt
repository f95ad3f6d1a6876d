use Rattle.std.proofs.Common.{◌++◌, [], ◌∷◌, List, sym, ap₂, ◌∙◌, arith}
use Rattle.std.proofs.lemmas.List.FromFn.{map-range_with_len_more}
use Rattle.predicate.specs.Granules.{known_at}
use Rattle.predicate.specs.declared.extent.Known.{Known}
use Rattle.primary_marks.proofs.choosing.box_within.Goals as goal

pub loop-place-preserved : goal.loop-place-preserved
loop-place-preserved c =
    let f = known_at c.args.schema.now c.args.partition.now c.args.ranges.now in
    c.in_ok-push.ensures.ok
    ∙ ap₂ (λ (ks : List Known) k. ks ++ k ∷ []) c.loop-place.invariant c.in_ok-known_at.ensures
    ∙ sym (map-range_with_len_more f 0 c.loop-place.place c.loop-place.place (omega arith))
