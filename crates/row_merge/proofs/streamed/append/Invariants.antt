-- the rows gone over are appended
use Rattle.std.proofs.Common.{◌≡◌, ◌-◌, ◌≤◌, ◌++◌, List, is_some, length, take}
use Rattle.mt_values.specs.Values.{Row}
use Rattle.part_reader.specs.part_writer.Growing.{HasRows}
use Rattle.row_merge.specs.Streams.{KeepsHeld}
use Rattle.row_merge.proofs.streamed.append.Given as goal

abbrev pub invariant-loop-row : goal.invariant-loop-row
invariant-loop-row g l = record {
  rows : (done : List Row) → HasRows l.fn.out done → HasRows l.out (done ++ take l.row-index l.rows);
  table : l.out.grown.schema ≡ l.fn.out.grown.schema;
  told : is_some l.out.stage.files ≡ is_some l.fn.out.stage.files;
  count : l.out.stage.failed ≡ l.fn.out.stage.failed;
  made : l.held.made ≤ length l.rows - l.row-index;
  given : length l.rows ≤ l.held.most_given;
  held : KeepsHeld l.fn.held l.held;
}
