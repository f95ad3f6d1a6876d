use Rattle.std.proofs.Common.{◌∙◌, Some, sym, ap}
use Rattle.std.proofs.lemmas.Option.{slice_get-get_or, slice_get_past}
use Rattle.mt_values.specs.Cells.{value_of}
use Rattle.tsv_rows.proofs.SignedRows.{sign_of_column, sign_of_none}
use Rattle.tsv_rows.proofs.signs.is_signed.Goals as goal

-- there is no such column
pub returns-then-sign-columns : goal.returns-then-sign-columns
returns-then-sign-columns c =
    let columns = c.args.columns.now in
    sym (sign_of_none columns c.args.place c.args.sign c.requires (slice_get_past columns c.args.sign c.if-sign-columns.true))

pub returns : goal.returns
returns c =
    let columns = c.args.columns.now in
    let column = c.index-columns-sign.result in
    let there = slice_get-get_or columns c.args.sign column c.if-sign-columns.false ∙ ap Some (sym c.index-columns-sign.is) in
    c.is_sign.ensures ∙ sym (sign_of_column columns c.args.place c.args.sign c.requires column (value_of c.at.result) there c.at.ensures)
