-- the rows after the mutations so far
use Rattle.std.proofs.Common.{◌≡◌, take}
use Rattle.std.specs.Prelude.{filter, nat_le}
use Rattle.mt_values.specs.declared.mutation.Mutation.{Mutation}
use Rattle.mt_values.specs.Changes.{mutated}
use Rattle.run_memory.proofs.courses.rewritten.Given as goal

abbrev pub invariant-loop-mutation : goal.invariant-loop-mutation
invariant-loop-mutation l = l.rows.items ≡ mutated (filter (λ (m : Mutation). nat_le m.number l.upto) (take l.mutation-index l.pending)) l.part.rows
