-- the columns gone over have their values
use Rattle.std.proofs.Common.{◌≡◌, false}
use Rattle.mt_values.specs.Rows.{fields_from, row_of_line}
use Rattle.tsv_fields.specs.Columns.{types_in, with_row}
use Rattle.tsv_fields.proofs.LineColumns.{columns_beyond}
use Rattle.tsv_fields.proofs.lines.read_line.Given as goal

abbrev pub invariant-loop-place : goal.invariant-loop-place
invariant-loop-place l = columns_beyond l.line l.place l.columns (fields_from false l.text) ≡ with_row l.initial.columns (row_of_line (types_in l.initial.columns) l.line l.text)
