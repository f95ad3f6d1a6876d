-- those gone over have blocks of a column of the table
use Rattle.std.proofs.Common.{All, take}
use Rattle.run_memory.specs.Growing.{HasBlocks}
use Rattle.run_memory.proofs.growing.all_have_blocks.Given as goal

abbrev pub invariant-loop-index : goal.invariant-loop-index
invariant-loop-index l = All (HasBlocks l.schema) (take l.index-index l.index-items)
