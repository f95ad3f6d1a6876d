use Rattle.std.proofs.Common.{not, rules}
use Rattle.std.proofs.lemmas.Fn.{filter_same}
use Rattle.mt_values.specs.Tests.{eval}
use Rattle.on_fly.proofs.rows.delete_rows.Goals as goal

pub returns : goal.returns
returns c = filter_same _ (λ row. not (eval c.args.condition.now row)) _ (λ row b f call. search rules) _ _ c.retain.ensures.filtered
