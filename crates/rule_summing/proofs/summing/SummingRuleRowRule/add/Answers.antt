use Rattle.std.proofs.Common.{length, ap, ap₂, ◌∙◌}
use Rattle.rule_summing.specs.Summed.{added_at, changed_from}
use Rattle.rule_summing.proofs.Adding.{sums_next, written}
use Rattle.rule_summing.proofs.summing.SummingRuleRowRule.add.Goals as goal

pub returns : goal.returns
returns c = λ rows all own h.
    let was = c.as_mut_slice.ensures.value in
    sums_next c.args.self.now.places c.args.self.now.types rows c.args.row.now c.args.sums.now.items _ all own h
    (written c.args.sums.now.len c.args.sums.now.items c.add_row.new.sums (c.add_row.auto.sums ∙ ap length was) c.args.sums.now.ok.0
    ∙ c.add_row.ensures ∙ ap₂ (λ places sums. changed_from (added_at places c.args.row.now) 0 sums) c.as_slice.ensures was)
