use Rattle.tsv_rows.proofs.ReadAgain.{data_again, line_again, rows_again, signed_row_again}
use Rattle.tsv_rows.proofs.laws.printed_rows_are_read.Goals as goal

pub returns : goal.returns
returns c = record {
  row = signed_row_again;
  line = line_again;
  not_end = data_again;
  rows = λ types sign rows typed are signed some few. rows_again types sign some rows typed are signed few;
}
