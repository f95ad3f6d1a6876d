use Rattle.std.proofs.Common.{ap, ◌∙◌, ◌++◌, [], ◌∷◌, get_or, map}
use Rattle.std.proofs.lemmas.List.{get_or_default}
use Rattle.mt_values.specs.Grid.{Cells}
use Rattle.part_reader.proofs.CutRows.{empty_next, types_next}
use Rattle.part_reader.proofs.cut_rows.empty_columns.Goals as goal

pub loop-place-preserved : goal.loop-place-preserved
loop-place-preserved c =
    let schema = c.args.schema.now in
    let places = c.args.places.now in
    let at = c.loop-place.place-index in
    let place = get_or places at 0 in
    let columns = c.loop-place.columns.items in
    let column = c.at-column.result.now in
    let same = get_or_default places at 0 place c.loop-place-test.true in
    let pushed = c.in_ok-push.ensures.items ∙ ap (λ (x : Cells). columns ++ x ∷ []) c.new.ensures in
    record {
      types = ap (map (λ (x : Cells). x.col_type)) pushed ∙ types_next schema places at place column columns c.loop-place-test.true same c.at-column.ensures c.loop-place.invariant.types;
      empty = ap (map (λ (x : Cells). x.values)) pushed ∙ empty_next places at columns column.col_type c.loop-place-test.true c.loop-place.invariant.empty;
    }
