use Rattle.std.proofs.Common.{ap, subst, sym, ◌∙◌}
use Rattle.part_history.specs.mt_model.Numbers.{mutations_in}
use Rattle.part_history.specs.part_name.Pending.{Rise}
use Rattle.table_core.specs.Core.{Core}
use Rattle.table_core.proofs.state.CoreState.mutations.Goals as goal

pub returns-clause-mutations : goal.returns-clause-mutations
returns-clause-mutations c =
    c.all.ensures.all ∙ (c.self.invariant.queue c.args.table.now ∙ ap (λ (core : Core). mutations_in c.args.table.now core.history) c.self.view_is)

pub returns-clause-rise : goal.returns-clause-rise
returns-clause-rise c = subst Rise (sym c.all.ensures.all) c.all.ensures.rise
