use Rattle.std.proofs.Common.{[], ◌∷◌, ◌++◌, List, ap, sym, ◌∙◌, get_or, slice_get}
use Rattle.std.proofs.lemmas.List.{get_or_default}
use Rattle.mt_values.specs.Cells.{value_of}
use Rattle.mt_values.specs.Grid.{Cells}
use Rattle.mt_values.specs.declared.value.Value.{Value}
use Rattle.mt_values.proofs.Grids.{filter_map_more}
use Rattle.primary_marks.proofs.building.picked_cells.Goals as goal

pub loop-place-preserved : goal.loop-place-preserved
loop-place-preserved c =
    let pushed = c.in_ok-push_cell.ensures.ok in
    let places = c.args.places.now in
    let i = c.loop-place.place-index in
    let this = get_or places i 0 in
    record {
      col_type = ap (λ (x : Cells). x.col_type) pushed ∙ c.loop-place.invariant.col_type;
      values = ap (λ (x : Cells). x.values) pushed ∙ ap (λ (vs : List Value). vs ++ value_of c.at.result ∷ []) c.loop-place.invariant.values
          ∙ sym (filter_map_more (slice_get c.args.cells.now.values) places i this (value_of c.at.result) c.loop-place-test.true (get_or_default places i 0 this c.loop-place-test.true) c.at.ensures);
    }
