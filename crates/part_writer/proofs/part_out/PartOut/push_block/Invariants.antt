-- the rows gone over are added
use Rattle.std.proofs.Common.{◌≡◌, ◌-◌, ◌≤◌, ◌++◌, List, is_some, length, take}
use Rattle.mt_values.specs.Grid.{picked}
use Rattle.mt_values.specs.Values.{Row}
use Rattle.part_writer.specs.Growing.{HasRows}
use Rattle.part_writer.proofs.part_out.PartOut.push_block.Given as goal

abbrev pub invariant-chunks : goal.invariant-chunks
invariant-chunks g l = record {
  rows : (rows : List Row) → HasRows l.initial.self rows → HasRows l.self (rows ++ picked l.block.rows (take l.at l.order));
  within : l.at ≤ length l.order;
  schema : l.self.grown.schema ≡ l.initial.self.grown.schema;
  told : is_some l.self.stage.files ≡ is_some l.initial.self.stage.files;
  count : l.self.stage.failed ≡ l.initial.self.stage.failed;
}

abbrev pub decreases-chunks : goal.decreases-chunks
decreases-chunks g l = length l.order - l.at
