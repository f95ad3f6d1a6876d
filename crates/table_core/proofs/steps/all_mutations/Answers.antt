use Rattle.std.proofs.Common.{◌∙◌}
use Rattle.std.proofs.lemmas.List.{take_all}
use Rattle.table_core.proofs.steps.all_mutations.Goals as goal

-- the queue has the mutations of the history
pub returns : goal.returns
returns c =
    c.loop-mutation.invariant
    ∙ (take_all c.loop-mutation.mutation-index c.all-mutations.result.now c.loop-mutation-test.false
    ∙ (c.all-mutations.ensures.all ∙ c.requires.queue c.args.table.now))
