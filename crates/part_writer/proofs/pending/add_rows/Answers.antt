use Rattle.std.proofs.Common.{◌≡◌, Some, List, ap, arith, get_or, length, rules, set, slice_get, sym, ◌∙◌}
use Rattle.std.proofs.lemmas.List.{take_all}
use Rattle.std.proofs.lemmas.Option.{slice_get-get_or}
use Rattle.mt_values.specs.Grid.{Cells, picked}
use Rattle.part_writer.specs.Growing.{with_rows}
use Rattle.part_writer.proofs.PendingColumns.{alike_many, rest_of, type_here, with_more}
use Rattle.part_writer.proofs.pending.add_rows.Goals as goal

pub bounds-columns-number : goal.bounds-columns-number
bounds-columns-number c = omega (arith, alike_many c.args.block.now.types c.args.places.now c.args.columns.now c.requires.types, c.loop-number.auto.columns, c.loop-number-test.true)

pub offset_bounds-columns-number : goal.offset_bounds-columns-number
offset_bounds-columns-number c =
    let long : length c.args.columns.now ≡ length c.args.places.now = alike_many c.args.block.now.types c.args.places.now c.args.columns.now c.requires.types in
    search rules

pub add_column-requires-clause-place : goal.add_column-requires-clause-place
add_column-requires-clause-place c = c.requires.places c.loop-number.number 0 c.loop-number-test.true

pub add_column-requires-clause-same : goal.add_column-requires-clause-same
add_column-requires-clause-same c =
    let i = c.loop-number.number in
    let any : Cells = c.index-columns-number.result in
    let old : Cells = get_or c.loop-number.columns i any in
    let long = alike_many c.args.block.now.types c.args.places.now c.args.columns.now c.requires.types in
    let there : slice_get c.loop-number.columns i ≡ Some old = slice_get-get_or c.loop-number.columns i any (omega (arith, long, c.loop-number.auto.columns, c.loop-number-test.true)) in
    let here : slice_get c.args.columns.now i ≡ Some old =
    sym (rest_of (picked c.args.block.now.rows c.args.order.now) c.args.places.now c.args.columns.now i i (omega arith)) ∙ ap (λ (cs : List Cells). slice_get cs i) (sym c.loop-number.invariant) ∙ there in
    type_here c.args.block.now.types c.args.places.now c.args.columns.now i old c.requires.types c.loop-number-test.true here

pub loop-number-preserved : goal.loop-number-preserved
loop-number-preserved c =
    let i = c.loop-number.number in
    let rows = picked c.args.block.now.rows c.args.order.now in
    let any : Cells = c.index-columns-number.result in
    let old : Cells = get_or c.loop-number.columns i any in
    let long = alike_many c.args.block.now.types c.args.places.now c.args.columns.now c.requires.types in
    let there : slice_get c.loop-number.columns i ≡ Some old = slice_get-get_or c.loop-number.columns i any (omega (arith, long, c.loop-number.auto.columns, c.loop-number-test.true)) in
    let here : slice_get c.args.columns.now i ≡ Some old = sym (rest_of rows c.args.places.now c.args.columns.now i i (omega arith)) ∙ ap (λ (cs : List Cells). slice_get cs i) (sym c.loop-number.invariant) ∙ there in
    ap (λ (cs : List Cells). set cs i c.add_column.new.column) c.loop-number.invariant
    ∙ with_more rows c.args.places.now c.args.columns.now i old c.add_column.new.column c.loop-number-test.true here c.in_ok-add_column.ensures

pub returns : goal.returns
returns c = c.loop-number.invariant ∙ ap (λ ps. with_rows (picked c.args.block.now.rows c.args.order.now) ps c.args.columns.now) (take_all c.loop-number.number c.args.places.now c.loop-number-test.false)
