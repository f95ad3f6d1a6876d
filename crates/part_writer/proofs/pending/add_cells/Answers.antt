use Rattle.std.proofs.Common.{◌++◌, ◌∷◌, [], List, ap, append_assoc, filter_map, slice_get, sym, take, ◌∙◌}
use Rattle.mt_values.specs.Cells.{value_of}
use Rattle.mt_values.specs.declared.value.Value.{Value}
use Rattle.mt_values.specs.Grid.{Cells}
use Rattle.mt_values.proofs.Grids.{picked_more}
use Rattle.part_writer.proofs.pending.add_cells.Goals as goal

pub loop-place-preserved : goal.loop-place-preserved
loop-place-preserved c =
    let old = c.args.column.now in
    let values = c.args.cells.now.values in
    let i = c.loop-place.place-index in
    let v = value_of c.at.result in
    let with : List Value → Cells = λ vs. record { col_type = old.col_type; values = vs } in
    c.in_ok-push_cell.ensures.ok
    ∙ ap (λ (x : Cells). record { col_type = x.col_type; values = x.values ++ v ∷ [] }) c.loop-place.invariant
    ∙ ap with (append_assoc old.values (filter_map (slice_get values) (take i c.args.order.now)) (v ∷ []) ∙ ap (λ vs. old.values ++ vs) (sym (picked_more (slice_get values) c.args.order.now i v c.loop-place-test.true c.at.ensures)))
