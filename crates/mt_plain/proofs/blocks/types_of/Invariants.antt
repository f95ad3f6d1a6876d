-- the types so far
use Rattle.std.proofs.Common.{◌≡◌, take}
use Rattle.mt_plain.proofs.blocks.types_of.Given as goal

abbrev pub invariant-loop-place : goal.invariant-loop-place
invariant-loop-place l = l.types.items ≡ take l.place l.block.types
