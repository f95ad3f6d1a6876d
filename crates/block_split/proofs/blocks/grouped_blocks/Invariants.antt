-- a block for each group gone over, and room for the others
use Rattle.std.proofs.Common.{◌≡◌, All, length, map, take, vec_len, vec_capacity}
use Rattle.block_split.specs.declared.blocks.PartitionBlock.{PartitionBlock}
use Rattle.block_split.specs.Groups.{group_rows}
use Rattle.block_split.specs.Split.{partition_rows}
use Rattle.block_split.proofs.blocks.grouped_blocks.Given as goal

abbrev pub invariant-loop-group : goal.invariant-loop-group
invariant-loop-group l = record {
  rows : map partition_rows l.blocks.items ≡ map (group_rows l.block.rows) (take l.group-index l.groups);
  types : All (λ (b : PartitionBlock). b.block.types ≡ l.block.types) l.blocks.items;
  count : vec_len l.blocks ≡ l.group-index;
  room : vec_capacity l.blocks ≡ length l.groups;
}
