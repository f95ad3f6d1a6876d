use Rattle.std.proofs.Common.{◌≡◌, ◌<◌, ◌++◌, ◌+◌, ◌∷◌, [], Some, All, ℕ, ◌∙◌, sym, ap, arith, get_or, slice_get, take, length, length-take-le}
use Rattle.std.proofs.lemmas.List.{get_or_default}
use Rattle.std.proofs.lemmas.List.Elements.{All-take}
use Rattle.std.proofs.lemmas.Result.{err_from_is_err_and}
use Rattle.mt_values.specs.Cells.{value_of}
use Rattle.mt_values.specs.Grid.{column_of}
use Rattle.mt_values.specs.Printing.{selected}
use Rattle.mt_values.proofs.Grids.{filter_map_more, length-column_of}
use Rattle.mt_values.proofs.OrderBy.{all_reach, value_at}
use Rattle.tsv_fields.proofs.Printed.{length-selected, printed_push}
use Rattle.tsv_fields.proofs.printing.write_row_at.Goals as goal
use Rattle.tsv_fields.proofs.printing.write_row_at.Goals.{After-column}

-- out of memory
pub returns-in_err-write_tab : goal.returns-in_err-write_tab
returns-in_err-write_tab c = let p = err_from_is_err_and c.from_residual.result c.from_residual.ensures.1 in rw p.1 tt

pub returns-in_err-write_cell : goal.returns-in_err-write_cell
returns-in_err-write_cell c = let p = err_from_is_err_and c.from_residual-in_err-write_cell.result c.from_residual-in_err-write_cell.ensures.1 in rw p.1 tt

pub returns-in_err-push : goal.returns-in_err-push
returns-in_err-push c = let p = err_from_is_err_and c.from_residual-in_err-push.result c.from_residual-in_err-push.ensures.1 in rw p.1 tt

-- the block has a column at this place
below : (c : After-column) → get_or c.args.columns.now c.loop-index.index 0 < length c.args.block.now.types
below c = c.requires.chosen c.loop-index.index 0 c.loop-index-test.true

pub at-requires : goal.at-requires
at-requires c =
    let block = c.args.block.now in
    let column = get_or c.args.columns.now c.loop-index.index 0 in
    let reach = all_reach block.types block.rows column c.len.ensures.typed (below (goal.at.at-requires c).After-column) in
    let count = length-column_of column block.rows reach in
    let size = ap length c.column.ensures.values in
    omega (arith, c.requires.within)

pub loop-index-preserved : goal.loop-index-preserved
loop-index-preserved c =
    let block = c.args.block.now in
    let columns = c.args.columns.now in
    let index = c.loop-index.index in
    let column = get_or columns index 0 in
    let row = get_or block.rows c.args.place [] in
    let value = value_of c.at.result in
    let cell : slice_get (column_of column block.rows) c.args.place ≡ Some value = ap (λ vs. slice_get vs c.args.place) (sym c.column.ensures.values) ∙ c.at.ensures in
    let here = value_at block.types block.rows column c.args.place value c.len.ensures.typed (below (goal.at.loop-index-preserved c).After-column) cell in
    let all : All (λ (k : ℕ). k < length row) columns = λ k d h. all_reach block.types block.rows (get_or columns k d) c.len.ensures.typed (c.requires.chosen k d h) c.args.place [] c.requires.within in
    let count = length-selected (take index columns) row (All-take (λ (k : ℕ). k < length row) index columns all) ∙ length-take-le index columns (omega arith) in
    let more : selected (take (index + 1) columns) row ≡ selected (take index columns) row ++ value ∷ [] =
    filter_map_more (slice_get row) columns index column value c.loop-index-test.true (get_or_default columns index 0 column c.loop-index-test.true) here in
    rw more
    (printed_push c.args.out.now.items c.loop-index.out.items c.write_tab.new.out.items c.write_cell.new.out.items (selected (take index columns) row) index value count c.loop-index.invariant
    c.in_ok-write_tab.ensures c.in_ok-write_cell.ensures)
