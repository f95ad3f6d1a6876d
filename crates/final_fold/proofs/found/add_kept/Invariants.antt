-- the columns have the matches among the rows gone over
use Rattle.std.proofs.Common.{◌≡◌, ◌≤◌, length, take}
use Rattle.row_merge.specs.part_reader.Parts.{with_columns}
use Rattle.final_fold.specs.Matches.{matching}
use Rattle.final_fold.proofs.found.add_kept.Given as goal

abbrev pub invariant-loop-row : goal.invariant-loop-row
invariant-loop-row l = record {
  values : l.columns ≡ with_columns (matching l.wanted.condition.now (take l.row-index l.rows)) l.wanted.places.now l.initial.columns;
  counted : l.count ≡ length (matching l.wanted.condition.now (take l.row-index l.rows));
  few : l.count ≤ l.row-index;
}
