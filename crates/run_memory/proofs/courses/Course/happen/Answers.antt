use Rattle.std.proofs.Common.{subst, sym}
use Rattle.table_core.specs.Core.{Core}
use Rattle.run_memory.specs.Events.{FitsAfter}
use Rattle.run_memory.proofs.Putting.{stays}
use Rattle.run_memory.proofs.courses.Course.happen.Goals as goal

pub invariant_of-self : goal.invariant_of-self
invariant_of-self c =
    let fits = subst (λ (core : Core). FitsAfter core c.args.event) (sym c.self.view_is) c.requires in
    stays c.self.inside.state c.step.new.state c.args.event c.step.result c.self.invariant.tables fits c.step.ensures.core c.step.ensures.gives c.step.ensures.err
