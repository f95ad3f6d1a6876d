use Rattle.std.proofs.Common.{◌≡◌, ◌<◌, ◌≤◌, [], ◌∷◌, List, Some, ap, arith, get_or, length, set, slice_get, sym, ◌∙◌}
use Rattle.std.specs.List.{range_with_len}
use Rattle.std.proofs.lemmas.List.{take_all}
use Rattle.std.proofs.lemmas.List.FromFn.{length-range_with_len}
use Rattle.std.proofs.lemmas.Option.{slice_get-get_or}
use Rattle.mt_values.specs.Cells.{value_of}
use Rattle.mt_values.specs.Grid.{Cells}
use Rattle.mt_values.specs.declared.value.Value.{Value}
use Rattle.part_writer.specs.Growing.{with_rows}
use Rattle.part_writer.proofs.PendingColumns.{rest_of, row_many, row_type_here, row_value, with_more}
use Rattle.part_writer.proofs.pending.add_row.Goals as goal
use Rattle.part_writer.proofs.pending.add_row.Goals.{After-of}

-- the column gone over is as it was
old_is : (c : After-of) → slice_get c.args.columns.now c.loop-number.number ≡ Some (get_or c.loop-number.columns c.loop-number.number c.index-columns-number.result)
old_is c =
    let i = c.loop-number.number in
    let any : Cells = c.index-columns-number.result in
    let many = row_many c.args.row.now c.args.columns.now c.requires in
    let below : i < length c.loop-number.columns = omega (arith, many, c.loop-number.auto.columns, c.loop-number-test.true, ap length c.as_slice-value-items.ensures) in
    sym (rest_of (c.args.row.now ∷ []) (range_with_len 0 (length c.args.row.now)) c.args.columns.now i i (omega arith))
    ∙ ap (λ (cs : List Cells). slice_get cs i) (sym c.loop-number.invariant) ∙ slice_get-get_or c.loop-number.columns i any below

-- its value of the row
value_is : (c : After-of) → slice_get c.args.row.now c.loop-number.number ≡ Some (value_of c.of.result)
value_is c =
    let i = c.loop-number.number in
    let items = c.as_slice-value-items.result.now in
    ap (λ (vs : List Value). slice_get vs i) (sym c.as_slice-value-items.ensures)
    ∙ slice_get-get_or items i c.value-item.result c.loop-number-test.true ∙ sym (ap Some c.value-item.is) ∙ ap Some (sym c.of.ensures)

pub push_cell-requires : goal.push_cell-requires
push_cell-requires c =
    let at = (goal.at.push_cell-requires c).After-of in
    row_type_here c.args.row.now c.args.columns.now c.loop-number.number _ (value_of c.of.result) c.requires (old_is at) (value_is at)

pub loop-number-preserved : goal.loop-number-preserved
loop-number-preserved c =
    let at = (goal.at.loop-number-preserved c).After-of in
    let row = c.args.row.now in
    let places = range_with_len 0 (length row) in
    let i = c.loop-number.number in
    let old : Cells = get_or c.loop-number.columns i c.index-columns-number.result in
    let below : i < length places = omega (arith, c.loop-number-test.true, ap length c.as_slice-value-items.ensures, length-range_with_len 0 (length row)) in
    ap (λ (cs : List Cells). set cs i c.push_cell.new.self) c.loop-number.invariant
    ∙ with_more (row ∷ []) places c.args.columns.now i old c.push_cell.new.self below (old_is at) (row_value row i (value_of c.of.result) old c.push_cell.new.self (value_is at) c.in_ok-push_cell.ensures.ok)

pub returns : goal.returns
returns c =
    let row = c.args.row.now in
    let places = range_with_len 0 (length row) in
    let all : length places ≤ c.loop-number.number = omega (arith, c.loop-number-test.false, ap length c.as_slice-value-items.ensures, length-range_with_len 0 (length row)) in
    c.loop-number.invariant ∙ ap (λ ps. with_rows (row ∷ []) ps c.args.columns.now) (take_all c.loop-number.number places all)
