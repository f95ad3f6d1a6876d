-- the groups of the rows gone over
use Rattle.std.proofs.Common.{◌≡◌, All, Some, length, map, take}
use Rattle.mt_values.specs.declared.schema.Schema.{Schema}
use Rattle.block_split.specs.Groups.{group_rows}
use Rattle.block_split.specs.Split.{split_rows}
use Rattle.block_split.proofs.Placing.{AreBelow, AreFew, numbers_in}
use Rattle.block_split.proofs.grouping.group_places.Given as goal

abbrev pub invariant-loop-row : goal.invariant-loop-row
invariant-loop-row l = record {
  numbers : l.groups.numbers.keys ≡ numbers_in l.groups.groups.items;
  within : All (AreBelow (length l.block.rows)) l.groups.groups.items;
  few : All (AreFew l.row) l.groups.groups.items;
  split : (schema : Schema) → schema.partition ≡ Some l.column → map (group_rows l.block.rows) l.groups.groups.items ≡ split_rows schema (take l.row l.block.rows);
}
