use Rattle.std.proofs.Common.{Ok, ap, sym, ◌∙◌}
use Rattle.std.proofs.lemmas.Result.{err_from_is_err_and}
use Rattle.mt_values.specs.Rows.{value_of_field}
use Rattle.tsv_fields.specs.Columns.{with_value}
use Rattle.tsv_fields.proofs.LineColumns.{field_refused}
use Rattle.tsv_fields.proofs.lines.read_field.Goals as goal

-- the field stops the reading
pub returns-in_err-cell : goal.returns-in_err-cell
returns-in_err-cell c =
    let p = err_from_is_err_and c.from_residual.result c.from_residual.ensures.1 in
    let why = rw c.col_type.ensures at c.in_err-cell.ensures in
    rw (p.1, p.2) (field_refused c.args.column.now (value_of_field c.args.column.now.col_type c.args.field.now) c.in_err-cell.field-0.0 why)

-- out of memory
pub returns-in_err-push_cell : goal.returns-in_err-push_cell
returns-in_err-push_cell c = let p = err_from_is_err_and c.from_residual-in_err-push_cell.result c.from_residual-in_err-push_cell.ensures.1 in rw (p.1, p.2) tt

pub returns : goal.returns
returns c =
    let read = rw c.col_type.ensures at c.in_ok-cell.ensures in
    ap (with_value c.args.column.now) read ∙ ap Ok (sym c.in_ok-push_cell.ensures.ok)
