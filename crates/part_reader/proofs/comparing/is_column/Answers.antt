use Rattle.std.proofs.Common.{◌≡◌, ◌∙◌, Some, List, ap, arith, length, refl, slice_get, sym}
use Rattle.std.proofs.lemmas.Bool.{false≢true}
use Rattle.mt_values.specs.Cells.{value_of}
use Rattle.mt_values.specs.Grid.{column_of}
use Rattle.mt_values.specs.declared.value.Value.{Value}
use Rattle.part_damage.proofs.PrimaryMarksKeyRows.{within_width}
use Rattle.part_damage.proofs.PrimaryMarksWanted.{wanted_is}
use Rattle.part_reader.proofs.KeptColumns.{alike_all, alike_more, decided_empty, length_kept, none_column, value_kept}
use Rattle.part_reader.proofs.comparing.is_column.Goals as goal

pub returns-then-place-width : goal.returns-then-place-width
returns-then-place-width c =
    decided_empty c.is_empty.result (column_of c.args.place c.args.marks.now) c.args.firsts.now.values (none_column c.args.marks.now c.args.place c.width.result c.width.ensures c.if-place-width.true) c.is_empty.ensures

pub returns-then-len : goal.returns-then-len
returns-then-len c =
    let kept = length_kept c.args.marks.now c.args.place c.width.result c.width.ensures c.if-place-width.false in
    (λ e. absurd (false≢true e), λ e. absurd (omega (arith, kept, ap length e, c.len.ensures, c.len-2.ensures.count, c.if-len.true)))

pub key_cell-requires-clause-column : goal.key_cell-requires-clause-column
key_cell-requires-clause-column c = within_width c.args.marks.now c.loop-key.key c.width.result c.args.place c.width.ensures c.if-place-width.false

pub returns-then-not-is_eq : goal.returns-then-not-is_eq
returns-then-not-is_eq c =
    let key = c.loop-key.key in
    let test =
    wanted_is c.args.firsts.now (Some key) key (value_of c.key_cell.result) (value_of c.at.result) c.cmp_cells.result c.is_eq.result refl c.at.ensures c.cmp_cells.ensures c.is_eq.ensures in
    let here = value_kept c.args.marks.now key c.args.place c.width.result (value_of c.key_cell.result) c.width.ensures c.if-place-width.false c.key_cell.ensures in
    (λ e. absurd (false≢true e), λ e. absurd (false≢true (sym c.if-not-is_eq.true ∙ test.1 (ap (λ (vs : List Value). slice_get vs key) (sym e) ∙ here))))

pub loop-key-preserved : goal.loop-key-preserved
loop-key-preserved c =
    let key = c.loop-key.key in
    let test =
    wanted_is c.args.firsts.now (Some key) key (value_of c.key_cell.result) (value_of c.at.result) c.cmp_cells.result c.is_eq.result refl c.at.ensures c.cmp_cells.ensures c.is_eq.ensures in
    let here = value_kept c.args.marks.now key c.args.place c.width.result (value_of c.key_cell.result) c.width.ensures c.if-place-width.false c.key_cell.ensures in
    alike_more key (column_of c.args.place c.args.marks.now) c.args.firsts.now.values c.loop-key.invariant (here ∙ sym (test.0 c.if-not-is_eq.false))

pub returns : goal.returns
returns c =
    let kept = length_kept c.args.marks.now c.args.place c.width.result c.width.ensures c.if-place-width.false in
    let even : length (column_of c.args.place c.args.marks.now) ≡ length c.args.firsts.now.values = omega (arith, kept, c.len.ensures, c.len-2.ensures.count, c.if-len.false) in
    (λ e. alike_all c.loop-key.key (column_of c.args.place c.args.marks.now) c.args.firsts.now.values even (omega (arith, c.loop-key-test.false, c.len-key-end.ensures.count)) c.loop-key.invariant, λ e. refl)
