-- the rows after the mutations so far
use Rattle.std.proofs.Common.{◌≡◌, take}
use Rattle.mt_values.specs.Changes.{mutated}
use Rattle.on_fly.proofs.rows.apply.Given as goal

abbrev pub invariant-loop-mutation : goal.invariant-loop-mutation
invariant-loop-mutation l = l.rows.items ≡ mutated (take l.mutation-index l.mutations) l.fn.rows.items
