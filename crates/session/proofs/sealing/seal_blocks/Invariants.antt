-- the blocks that are left, and the parts of the others
use Rattle.std.proofs.Common.{◌≡◌, ◌≤◌, ◌+◌, ◌++◌, true, All, length, map, vec_capacity}
use Rattle.block_split.specs.declared.blocks.PartitionBlock.{PartitionBlock}
use Rattle.replies.specs.mt_model.History.{column_types}
use Rattle.session.specs.declared.sealing.SealedBlock.{SealedBlock}
use Rattle.session.specs.Turns.{IsPartFor, NoneFailed, in_turn}
use Rattle.session.proofs.sealing.seal_blocks.Given as goal

abbrev pub invariant-unsealed : goal.invariant-unsealed
invariant-unsealed g l = record {
  types : All (λ (b : PartitionBlock). b.block.types ≡ column_types l.schema) l.blocks.items;
  split : map (λ (b : PartitionBlock). b.block) l.blocks.items ++ map (λ (s : SealedBlock _). s.block) (in_turn l.sealed.items) ≡ map (λ (b : PartitionBlock). b.block) l.initial.blocks.items;
  sealed : g.R.Arm.tells l.initial.arm ≡ true → All (IsPartFor l.schema) (in_turn l.sealed.items);
  none_failed : All NoneFailed (in_turn l.sealed.items);
  room : length l.blocks.items + length l.sealed.items ≤ vec_capacity l.sealed;
  tells : g.R.Arm.tells l.arm ≡ g.R.Arm.tells l.initial.arm;
  count : g.R.Arm.failed l.arm ≡ g.R.Arm.failed l.initial.arm;
}

abbrev pub decreases-unsealed : goal.decreases-unsealed
decreases-unsealed g l = length l.blocks.items
