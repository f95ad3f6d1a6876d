use Rattle.std.proofs.Common.{◌*◌, ◌<◌, ◌∷◌, ◌++◌, [], List, get_or, length, ap₂, sym, ◌∙◌, arith}
use Rattle.std.proofs.lemmas.Option.{slice_get-get_or}
use Rattle.mt_values.specs.Values.{Row}
use Rattle.mt_plain.proofs.Tallying.{granule_below, starts_more}
use Rattle.mt_plain.proofs.counting.first_rows.Goals as goal

pub loop-granule-preserved : goal.loop-granule-preserved
loop-granule-preserved c =
    let rows = c.args.rows.now in
    let size = c.args.granularity in
    let granule = c.loop-granule.granule in
    let row = c.index-rows-size.result in
    let few = c.granules-granule-end.ensures in
    let below : size * granule < length rows = granule_below (length rows) size granule (omega (arith, c.loop-granule-test.true, few)) in
    let one = c.in_ok-twin.ensures ∙ c.index-rows-size.is in
    c.in_ok-push.ensures.items
    ∙ (ap₂ (λ (rs : List Row) (r : Row). rs ++ r ∷ []) c.loop-granule.invariant one
    ∙ sym (starts_more size rows granule (get_or rows (size * granule) row) (slice_get-get_or rows (size * granule) row below)))
