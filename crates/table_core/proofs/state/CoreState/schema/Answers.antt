use Rattle.std.proofs.Common.{ap, ◌∙◌}
use Rattle.part_history.specs.mt_model.History.{schema_of}
use Rattle.table_core.specs.Core.{Core}
use Rattle.table_core.proofs.state.CoreState.schema.Goals as goal

pub returns : goal.returns
returns c = c.schema.ensures ∙ ap (λ (core : Core). schema_of c.args.table.now core.history) c.self.view_is
