use Rattle.std.proofs.Common.{◌∙◌, ◌++◌, ◌∷◌, [], List, ap, append_assoc, sym, take}
use Rattle.std.proofs.lemmas.List.{take_more}
use Rattle.std.proofs.lemmas.Option.{get_or_from_slice_get, slice_get_within}
use Rattle.mt_values.specs.Values.{Row}
use Rattle.part_reader.proofs.cut_rows.add_rows.Goals as goal

pub loop-place-preserved : goal.loop-place-preserved
loop-place-preserved c =
    let rows = c.args.block.now.rows in
    let before = c.args.rows.now.items in
    let place = c.loop-place.place in
    let row = c.in_ok-row.field-0 in
    let here = c.in_ok-row.ensures in
    record {
      rows = c.in_ok-push.ensures.items ∙ ap (λ (rs : List Row). rs ++ row ∷ []) c.loop-place.invariant.rows
          ∙ append_assoc before (take place rows) (row ∷ [])
          ∙ ap (λ (rs : List Row). before ++ rs) (sym (take_more rows place row (slice_get_within rows place row here) ∙ ap (λ (r : Row). take place rows ++ r ∷ []) (get_or_from_slice_get rows place row row here)));
    }
