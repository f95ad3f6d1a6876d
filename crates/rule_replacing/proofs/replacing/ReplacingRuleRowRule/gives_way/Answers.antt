use Rattle.std.proofs.Common.{◌∙◌, [], get_or, sym}
use Rattle.rule_replacing.proofs.KeptRow.{gives_way}
use Rattle.rule_replacing.proofs.replacing.ReplacingRuleRowRule.gives_way.Goals as goal

pub returns : goal.returns
returns c = λ told rows kept h.
    gives_way c.args.self.now.version (get_or c.args.block.now.rows c.args.at []) (get_or c.args.next.now.rows c.args.place []) rows kept (sym c.replaces_in.ensures ∙ told) h
