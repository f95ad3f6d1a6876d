-- the bytes of the blocks gone over
use Rattle.std.proofs.Common.{◌≡◌, take}
use Rattle.skip_index.specs.Blocks.{blocks_bytes}
use Rattle.skip_index.proofs.building.spell.Given as goal

abbrev pub invariant-loop-known : goal.invariant-loop-known
invariant-loop-known l = l.bytes ≡ blocks_bytes (take l.known-index l.index.blocks)
