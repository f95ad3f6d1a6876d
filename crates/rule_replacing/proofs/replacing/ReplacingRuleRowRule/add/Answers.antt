use Rattle.std.proofs.Common.{◌≡◌, false}
use Rattle.rule_replacing.specs.Replaced.{replaces}
use Rattle.rule_replacing.proofs.KeptRow.{kept_still}
use Rattle.rule_replacing.proofs.replacing.ReplacingRuleRowRule.add.Goals as goal

pub returns-else-replaces : goal.returns-else-replaces
returns-else-replaces c = λ rows all own h.
    let still : replaces c.args.self.now.version c.args.kept.now c.args.row.now ≡ false = cc in
    kept_still c.args.self.now.version rows c.args.kept.now c.args.row.now h still
