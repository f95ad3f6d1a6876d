use Rattle.std.proofs.Common.{sym, ap, ◌∙◌, arith}
use Rattle.std.specs.Ordering.{is_ne}
use Rattle.mt_values.specs.Cells.{value_of}
use Rattle.primary_marks.specs.Choosing.{key_at}
use Rattle.primary_marks.proofs.GranuleBoxes.{agree_all, agree_more, differ, key_has, key_width}
use Rattle.primary_marks.proofs.choosing.ranged_columns.Goals as goal

pub returns-then-is_ne : goal.returns-then-is_ne
returns-then-is_ne c =
    let keys = c.args.marks.now in
    let x = value_of c.key_cell.result in
    let y = value_of c.key_cell-in-loop-column.result in
    differ (key_at keys c.args.first) (key_at keys c.args.last) c.loop-column.column x y c.loop-column.invariant
    (key_has keys c.args.first c.loop-column.column x c.requires.first c.key_cell.ensures)
    (key_has keys c.args.last c.loop-column.column y c.requires.last c.key_cell-in-loop-column.ensures)
    (sym (ap is_ne c.cmp_cells.ensures) ∙ sym c.is_ne.ensures ∙ c.if-is_ne.true)

pub loop-column-preserved : goal.loop-column-preserved
loop-column-preserved c =
    let keys = c.args.marks.now in
    let x = value_of c.key_cell.result in
    let y = value_of c.key_cell-in-loop-column.result in
    agree_more (key_at keys c.args.first) (key_at keys c.args.last) c.loop-column.column x y c.loop-column.invariant
    (key_has keys c.args.first c.loop-column.column x c.requires.first c.key_cell.ensures)
    (key_has keys c.args.last c.loop-column.column y c.requires.last c.key_cell-in-loop-column.ensures)
    (sym (ap is_ne c.cmp_cells.ensures) ∙ sym c.is_ne.ensures ∙ c.if-is_ne.false)

pub returns : goal.returns
returns c =
    let keys = c.args.marks.now in
    agree_all (key_at keys c.args.first) (key_at keys c.args.last) c.loop-column.column c.width-width.result c.loop-column.invariant
    (key_width keys c.width-width.result c.args.first c.width-width.ensures c.requires.first)
    (omega (arith, c.loop-column-test.false, c.loop-column.auto.column-end))
