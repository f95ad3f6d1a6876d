-- the rows after the mutations so far
use Rattle.std.proofs.Common.{◌≡◌, take}
use Rattle.mt_values.specs.Changes.{mutated}
use Rattle.on_fly.proofs.ByColumns.{with_rows}
use Rattle.on_fly.proofs.blocks.apply_block.Given as goal

abbrev pub invariant-loop-mutation : goal.invariant-loop-mutation
invariant-loop-mutation l = l.block ≡ with_rows l.fn.block (mutated (take l.mutation-index l.mutations) l.fn.block.rows)
