use Rattle.std.proofs.Common.{◌≡◌, ◌++◌, ◌+◌, ◌∷◌, [], ◌∙◌, sym, ap, arith, take, length-take-le}
use Rattle.std.proofs.lemmas.List.{take_more}
use Rattle.std.proofs.lemmas.Result.{err_from_is_err_and}
use Rattle.mt_values.specs.Printing.{field}
use Rattle.tsv_fields.proofs.Printed.{printed_push}
use Rattle.tsv_fields.proofs.printing.write_row.Goals as goal

-- out of memory
pub returns-in_err-write_tab : goal.returns-in_err-write_tab
returns-in_err-write_tab c = let p = err_from_is_err_and c.from_residual.result c.from_residual.ensures.1 in rw p.1 tt

pub returns-in_err-write_cell : goal.returns-in_err-write_cell
returns-in_err-write_cell c = let p = err_from_is_err_and c.from_residual-in_err-write_cell.result c.from_residual-in_err-write_cell.ensures.1 in rw p.1 tt

pub returns-in_err-push : goal.returns-in_err-push
returns-in_err-push c = let p = err_from_is_err_and c.from_residual-in_err-push.result c.from_residual-in_err-push.ensures.1 in rw p.1 tt

pub loop-index-preserved : goal.loop-index-preserved
loop-index-preserved c =
    let values = c.args.values.now in
    let index = c.loop-index.index in
    let value = c.index-values-index.result in
    let count = length-take-le index values (omega arith) in
    let more : take (index + 1) values ≡ take index values ++ value ∷ [] = take_more values index value c.loop-index-test.true ∙ ap (λ v. take index values ++ v ∷ []) (sym c.index-values-index.is) in
    let written : c.write_cell.new.out.items ≡ c.write_tab.new.out.items ++ field value = rw c.of.ensures at c.in_ok-write_cell.ensures in
    rw more (printed_push c.args.out.now.items c.loop-index.out.items c.write_tab.new.out.items c.write_cell.new.out.items (take index values) index value count c.loop-index.invariant c.in_ok-write_tab.ensures written)
