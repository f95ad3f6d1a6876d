use Rattle.std.proofs.Common.{[], length, ap, ap₂, ◌∙◌}
use Rattle.rule_law.specs.mt_model.Rules.{with_sums}
use Rattle.rule_summing.specs.Summed.{added_at, changed_from}
use Rattle.rule_summing.proofs.Adding.{sums_first, written}
use Rattle.rule_summing.proofs.summing.SummingRuleRowRule.begin.Goals as goal

pub returns : goal.returns
returns c = λ own.
    let copy = c.into_vec-first.result in
    let was = c.as_mut_slice-sums.ensures.value in
    sums_first c.args.self.now.places c.args.row.now c.clear_row.new.sums _
    (c.clear_row.ensures ∙ ap₂ (λ places row. with_sums places [] row) c.as_slice.ensures (was ∙ c.into_vec-first.ensures ∙ c.in_ok-twin.ensures))
    (written copy.len copy.items c.add_row.new.sums (c.add_row.auto.sums ∙ c.clear_row.auto.sums ∙ ap length was) copy.ok.0
    ∙ c.add_row.ensures ∙ ap (λ places. changed_from (added_at places c.args.row.now) 0 c.clear_row.new.sums) c.as_slice-2.ensures)
