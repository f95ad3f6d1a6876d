-- the blocks gone over are those of the values
use Rattle.part_reader.proofs.IndexedBlocks.{AreBlocksRead}
use Rattle.part_reader.proofs.indexed.are_blocks.Given as goal

abbrev pub invariant-loop-block : goal.invariant-loop-block
invariant-loop-block l = AreBlocksRead l.column l.kind l.size l.kept l.block l.at
