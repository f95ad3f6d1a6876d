-- copies of the mutations so far
use Rattle.std.proofs.Common.{◌≡◌, take}
use Rattle.table_core.proofs.steps.all_mutations.Given as goal

abbrev pub invariant-loop-mutation : goal.invariant-loop-mutation
invariant-loop-mutation l = l.found ≡ take l.mutation-index l.mutations
