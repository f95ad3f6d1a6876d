use Rattle.std.proofs.Common.{◌∙◌, List, ap}
use Rattle.mt_values.specs.declared.mutation.Mutation.{Mutation}
use Rattle.mutation_queue.specs.Listed.{Listed}
use Rattle.part_set.specs.part_name.Pending.{pending_for}
use Rattle.mutation_queue.proofs.numbered.Numbered.pending.Goals as goal

pub returns-clause-pending : goal.returns-clause-pending
returns-clause-pending c =
    c.pending_in.ensures
    ∙ ap (λ (ms : List Mutation). pending_for ms c.args.name.now) (c.as_slice.ensures.value ∙ ap (λ (l : Listed). l.list) c.self.view_is)

pub returns-clause-rise : goal.returns-clause-rise
returns-clause-rise c = rw (← c.self.view_is) c.self.invariant
