use Rattle.std.proofs.Common.{◌++◌, ◌∷◌, [], List, map, ap, ap₂, sym, ◌∙◌}
use Rattle.std.specs.List.{range_with_len}
use Rattle.std.proofs.lemmas.List.{map-append}
use Rattle.mt_values.proofs.Grids.{range_more}
use Rattle.part_history.specs.predicate.declared.extent.Known.{Known}
use Rattle.part_history.specs.predicate.Granules.{known_at}
use Rattle.mt_plain.proofs.boxes.box_between.Goals as goal

pub loop-place-preserved : goal.loop-place-preserved
loop-place-preserved c =
    let i = c.loop-place.place in
    let at = known_at c.args.schema.now c.args.partition c.in_ok-keys.keys.items in
    let one = c.in_ok-known_at.ensures ∙ ap (λ (ks : List Known). known_at c.args.schema.now c.args.partition ks i) c.deref.ensures.value in
    c.in_ok-push.ensures.ok
    ∙ ap₂ (λ (ks : List Known) (k : Known). ks ++ k ∷ []) c.loop-place.invariant one
    ∙ sym (ap (map at) (range_more i) ∙ map-append at (range_with_len 0 i) (i ∷ []))
