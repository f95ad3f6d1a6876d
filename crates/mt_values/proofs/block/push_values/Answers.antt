use Rattle.std.proofs.Common.{◌≡◌, ◌∷◌, ◌++◌, [], Some, take, slice_get, sym, ◌∙◌, ap, append-nil, append_assoc}
use Rattle.std.proofs.lemmas.List.{take_all}
use Rattle.mt_values.specs.Grid.{Cells, column_of}
use Rattle.mt_values.specs.Values.{type_of, types_of}
use Rattle.mt_values.specs.Cells.{value_of}
use Rattle.mt_values.proofs.Grids.{filter_map_more, within_typed, type_at}
use Rattle.mt_values.proofs.block.push_values.Goals as goal

pub at-requires : goal.at-requires
at-requires c =
    let h = c.requires c.loop-row.row-index c.row-item.result c.loop-row-test.true in
    within_typed c.args.place c.args.column.now.col_type c.row-item.result (rw (← c.row-item.is) at h)

pub push_cell-requires : goal.push_cell-requires
push_cell-requires c =
    let h = c.requires c.loop-row.row-index c.row-item.result c.loop-row-test.true in
    let typed : slice_get (types_of c.row-item.result) c.args.place ≡ Some c.args.column.now.col_type = rw (← c.row-item.is) at h in
    let same : c.loop-row.column.col_type ≡ c.args.column.now.col_type = ap (λ (x : Cells). x.col_type) c.loop-row.invariant in
    ap type_of c.of.ensures ∙ type_at c.args.place c.args.column.now.col_type c.row-item.result c.at.result.now typed c.at.ensures ∙ sym same

pub loop-row-init : goal.loop-row-init
loop-row-init c = ap (λ vs. record { col_type = c.args.column.now.col_type; values = vs }) (sym (append-nil c.args.column.now.values))

pub loop-row-preserved : goal.loop-row-preserved
loop-row-preserved c =
    let rows = c.args.rows.now in
    let index = c.loop-row.row-index in
    let first = c.args.column.now.values in
    let value = value_of c.of.result in
    let here : slice_get c.row-item.result c.args.place ≡ Some value = c.at.ensures ∙ ap Some (sym c.of.ensures) in
    c.in_ok-push_cell.ensures.ok
    ∙ ap (λ (x : Cells). record { col_type = x.col_type; values = x.values ++ value ∷ [] }) c.loop-row.invariant
    ∙ ap (λ vs. record { col_type = c.args.column.now.col_type; values = vs })
    (append_assoc first (column_of c.args.place (take index rows)) (value ∷ [])
    ∙ ap (λ vs. first ++ vs) (sym (filter_map_more (λ row. slice_get row c.args.place) rows index c.row-item.result value c.loop-row-test.true c.row-item.is here)))

pub returns : goal.returns
returns c =
    c.loop-row.invariant
    ∙ ap (λ rs. record { col_type = c.args.column.now.col_type; values = c.args.column.now.values ++ column_of c.args.place rs }) (take_all c.loop-row.row-index c.args.rows.now c.loop-row-test.false)
