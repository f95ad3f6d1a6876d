-- the columns keep the rows of the lines gone over
use Rattle.std.proofs.Common.{◌≤◌, ◌-◌, length, drop}
use Rattle.tsv_rows.proofs.DataRows.{KeepLines}
use Rattle.tsv_rows.proofs.rows.read_rows.Given as goal

abbrev pub invariant-lines : goal.invariant-lines
invariant-lines l = record {
  kept : KeepLines (record { types = l.types; sign = l.sign; lines = l.lines; ended = l.ended }) (drop l.at l.lines) l.columns.items l.count;
  within : l.at ≤ length l.lines;
}

abbrev pub decreases-lines : goal.decreases-lines
decreases-lines l = length l.lines - l.at
