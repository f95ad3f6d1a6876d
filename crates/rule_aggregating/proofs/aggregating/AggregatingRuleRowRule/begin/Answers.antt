use Rattle.std.proofs.Common.{◌∙◌, ◌≤◌, ◌<◌, ap, arith, get_or, length, subst, take_all}
use Rattle.std.specs.List.{All}
use Rattle.std.proofs.lemmas.List.Elements.{All-more}
use Rattle.mt_values.specs.Values.{FitsType}
use Rattle.rule_aggregating.proofs.Rows.{first_row}
use Rattle.rule_aggregating.proofs.aggregating.AggregatingRuleRowRule.begin.Goals as goal

pub loop-value-preserved : goal.loop-value-preserved
loop-value-preserved c =
    let row = c.args.row.now in
    let place = c.loop-value.value-index in
    let item = c.value-item.result in
    let below : place < length row = omega (arith, c.loop-value-test.true, ap length c.as_slice-value-items.ensures) in
    All-more FitsType row place item below c.loop-value.invariant (subst FitsType (c.value-item.is ∙ ap (λ values. get_or values place item) c.as_slice-value-items.ensures) c.read_number.ensures)

pub returns : goal.returns
returns c = λ own.
    let past : length c.args.row.now ≤ c.loop-value.value-index = omega (arith, c.loop-value-test.false, ap length c.as_slice-value-items.ensures) in
    first_row c.args.self.now.types c.args.self.now.functions c.args.row.now c.into_vec.result.items (c.into_vec.ensures ∙ c.in_ok-first.ensures)
    (subst (All FitsType) (take_all c.loop-value.value-index c.args.row.now past) c.loop-value.invariant) own
