use Rattle.std.proofs.Common.{ap, not, ◌∙◌}
use Rattle.skip_index.proofs.Distinct.{asked_alike, keys_more}
use Rattle.skip_index.proofs.values.see.Goals as goal

pub returns-clause-fresh : goal.returns-clause-fresh
returns-clause-fresh c = c.in_ok-insert.ensures.added ∙ ap not (asked_alike c.args.cell c.args.seen.now.keys)

pub returns-clause-values : goal.returns-clause-values
returns-clause-values c = keys_more c.args.cell c.args.seen.now.keys c.insert.new.self.keys c.in_ok-insert.ensures.keys
