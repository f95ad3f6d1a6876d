-- the blocks gone over
use Rattle.skip_index.proofs.BlocksRead.{AreBlocksRead}
use Rattle.skip_index.proofs.reading.read_blocks.Given as goal

abbrev pub invariant-loop-block : goal.invariant-loop-block
invariant-loop-block l = AreBlocksRead l.shape l.bytes l.at l.block l.blocks
