use Rattle.std.proofs.Common.{◌*◌, ◌<◌, [], ◌∷◌, ◌++◌, List, ℕ, get_or, ap, sym, ◌∙◌, arith, length}
use Rattle.std.specs.Int.{div_ceil}
use Rattle.std.proofs.lemmas.Option.{slice_get-get_or}
use Rattle.primary_marks.proofs.MarkedRows.{granule_below, starts_more}
use Rattle.primary_marks.proofs.building.marked_places.Goals as goal

pub loop-granule-preserved : goal.loop-granule-preserved
loop-granule-preserved c =
    let order = c.args.order.now in
    let at = c.args.granularity * c.loop-granule.granule in
    let few : c.loop-granule.granule < div_ceil (length order) c.args.granularity = omega (arith, c.loop-granule-test.true, c.div_ceil-granules.ensures) in
    let below : at < length order = granule_below (length order) c.args.granularity c.loop-granule.granule c.requires few in
    c.in_ok-push.ensures.ok
    ∙ ap (λ (ps : List ℕ). ps ++ get_or order at 0 ∷ []) c.loop-granule.invariant
    ∙ sym (starts_more c.args.granularity order c.loop-granule.granule (get_or order at 0) (slice_get-get_or order at 0 below))
