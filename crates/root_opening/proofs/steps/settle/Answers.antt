use Rattle.std.proofs.Common.{◌∙◌}
use Rattle.std.proofs.lemmas.Result.{on_ok_weaker}
use Rattle.root_opening.proofs.Settled.{none_settled, some_settled}
use Rattle.root_opening.proofs.steps.settle.Goals as goal

pub returns-then-is_empty-clause-mark : goal.returns-then-is_empty-clause-mark
returns-then-is_empty-clause-mark g c = none_settled c.args.texts.now c.is_empty.result _ c.is_empty.ensures c.if-is_empty.true

pub returns-clause-mark : goal.returns-clause-mark
returns-clause-mark g c = on_ok_weaker c.sync_names.result (λ one. one ∙ some_settled c.args.texts.now c.is_empty.result _ c.is_empty.ensures c.if-is_empty.false) c.sync_names.ensures.clock
