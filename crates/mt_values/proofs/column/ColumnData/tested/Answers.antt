use Rattle.std.proofs.Common.{◌∙◌, ap, map}
use Rattle.std.proofs.lemmas.Result.{IfOk-weaker}
use Rattle.mt_values.specs.Tests.{meets}
use Rattle.mt_values.proofs.Masks.{run_all}
use Rattle.mt_values.proofs.column.ColumnData.tested.Goals as goal

pub returns : goal.returns
returns c =
    IfOk-weaker c.tested_within.result _ _ (λ v is. is ∙ ap (map (meets c.args.test.now)) (run_all c.len.result c.args.self.now.values c.len.ensures.count)) c.tested_within.ensures
