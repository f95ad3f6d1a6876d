-- the row has the values of the fields gone over
use Rattle.std.proofs.Common.{◌≡◌, ◌+◌, false, map, drop}
use Rattle.mt_values.specs.declared.schema.Column.{Column}
use Rattle.mt_values.specs.Rows.{fields_from, row_of_fields, row_of_line}
use Rattle.tsv_fields.proofs.LineRows.{fronted_ok}
use Rattle.tsv_rows.proofs.rows.read_fields.Given as goal

abbrev pub invariant-loop-place : goal.invariant-loop-place
invariant-loop-place l =
    let types = map (λ (c : Column). c.col_type) l.schema.columns in
    fronted_ok l.row (row_of_fields l.line (l.place + 1) (drop l.place types) (drop l.place (fields_from false l.text))) ≡ row_of_line types l.line l.text
