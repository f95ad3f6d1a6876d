use Rattle.std.proofs.Common.{◌+◌, ◌++◌, ◌∙◌, [], ap, flat_map, take, get_or}
use Rattle.std.proofs.lemmas.List.{take_all}
use Rattle.std.proofs.lemmas.Result.{err_from_is_err_and}
use Rattle.mt_values.specs.Grid.{picked}
use Rattle.mt_values.specs.Printing.{line, selected}
use Rattle.mt_values.specs.Values.{Row}
use Rattle.tsv_fields.proofs.Printed.{joined, lines_of_more}
use Rattle.tsv_fields.proofs.printing.write_rows.Goals as goal

-- out of memory
pub returns-in_err-write_row_at : goal.returns-in_err-write_row_at
returns-in_err-write_row_at c = let p = err_from_is_err_and c.from_residual.result c.from_residual.ensures.1 in rw p.1 tt

pub loop-place-preserved : goal.loop-place-preserved
loop-place-preserved c =
    let rows = c.args.block.now.rows in
    let columns = c.args.columns.now in
    let order = c.args.order.now in
    let index = c.loop-place.place-index in
    let within = c.requires.within index 0 c.loop-place-test.true in
    let place = get_or order index 0 in
    let print = λ (row : Row). line (selected columns row) in
    joined c.args.out.now.items (flat_map print (picked rows (take index order))) (print (get_or rows place [])) c.loop-place.out.items c.write_row_at.new.out.items
    (flat_map print (picked rows (take (index + 1) order))) c.loop-place.invariant c.in_ok-write_row_at.ensures (lines_of_more columns rows order index c.loop-place-test.true within)

pub returns : goal.returns
returns c =
    let print = λ (row : Row). line (selected c.args.columns.now row) in
    c.loop-place.invariant
    ∙ ap (λ places. c.args.out.now.items ++ flat_map print (picked c.args.block.now.rows places)) (take_all c.loop-place.place-index c.args.order.now c.loop-place-test.false)
