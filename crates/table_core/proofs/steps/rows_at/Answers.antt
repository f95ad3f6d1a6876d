use Rattle.std.proofs.Common.{◌++◌, ◌∷◌, [], List, sym, ap, ◌∙◌}
use Rattle.mt_values.specs.Values.{Row}
use Rattle.table_core.proofs.Keeping.{picked_more}
use Rattle.table_core.proofs.steps.rows_at.Goals as goal

pub loop-place-preserved : goal.loop-place-preserved
loop-place-preserved c =
    let row = c.in_ok-row.field-0 in
    c.in_ok-push.ensures.ok
    ∙ (ap (λ (rows : List Row). rows ++ row ∷ []) c.loop-place.invariant
    ∙ sym (picked_more c.args.block.now.rows c.args.places.now c.loop-place.place-index 0 row c.loop-place-test.true c.in_ok-row.ensures))
