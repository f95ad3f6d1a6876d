use Rattle.std.proofs.Common.{◌≡◌, ◌<◌, ◌∷◌, ◌++◌, [], Some, length, take, slice_get, get_or, arith, sym, ◌∙◌, ap}
use Rattle.std.proofs.lemmas.List.{take_all}
use Rattle.mt_values.specs.Grid.{Cells, Grid, row_at}
use Rattle.mt_values.proofs.Grids.{filter_map_more, slice_get-rows_of, length-rows_of}
use Rattle.mt_values.proofs.block.Block.row.Goals as goal

pub at-requires : goal.at-requires
at-requires c =
    let e = ap length c.deref-column-items.ensures.value in
    let within : c.loop-column.column-index < length c.self.inside.columns.items = omega (arith, c.loop-column-test.true) in
    let even = c.self.invariant.even c.loop-column.column-index c.column-item.result within in
    let here : c.column-item.result ≡ get_or c.self.inside.columns.items c.loop-column.column-index c.column-item.result =
    c.column-item.is ∙ ap (λ cs. get_or cs c.loop-column.column-index c.column-item.result) c.deref-column-items.ensures.value in
    let len : length c.column-item.result.values ≡ c.self.inside.rows = rw (← here) at even in
    let n = length-rows_of c.self.inside.columns.items c.self.inside.rows in
    let v = ap (λ (b : Grid). length b.rows) c.self.view_is in
    omega (arith, c.requires)

pub loop-column-preserved : goal.loop-column-preserved
loop-column-preserved c =
    let columns = c.deref-column-items.result.now in
    let here : slice_get c.column-item.result.values c.args.place ≡ Some c.in_ok-to_value.field-0 =
    c.at.ensures ∙ ap Some (sym c.in_ok-to_value.ensures) in
    let invariant : c.loop-column.row ≡ row_at (take c.loop-column.column-index columns) c.args.place = c.loop-column.invariant in
    c.in_ok-push.ensures.ok
    ∙ ap (λ r. r ++ c.in_ok-to_value.field-0 ∷ []) invariant
    ∙ sym (filter_map_more (λ (x : Cells). slice_get x.values c.args.place) columns c.loop-column.column-index c.column-item.result c.in_ok-to_value.field-0 c.loop-column-test.true c.column-item.is here)

pub returns : goal.returns
returns c =
    let columns = c.deref-column-items.result.now in
    let whole : take c.loop-column.column-index columns ≡ c.self.inside.columns.items = take_all c.loop-column.column-index columns c.loop-column-test.false ∙ c.deref-column-items.ensures.value in
    let n = length-rows_of c.self.inside.columns.items c.self.inside.rows in
    let e = ap (λ (b : Grid). length b.rows) c.self.view_is in
    ap (λ (b : Grid). slice_get b.rows c.args.place) (sym c.self.view_is)
    ∙ slice_get-rows_of c.self.inside.columns.items c.self.inside.rows c.args.place (omega (arith, c.requires))
    ∙ ap (λ cs. Some (row_at cs c.args.place)) (sym whole)
    ∙ ap Some (sym c.loop-column.invariant)
