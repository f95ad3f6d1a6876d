use Rattle.std.proofs.Common.{◌≡◌, ◌∙◌, Bool, [], ap, false, get_or, not, refl, sym, true}
use Rattle.rule_law.specs.mt_model.Rules.{are_zero}
use Rattle.rule_summing.proofs.Adding.{sums_alone}
use Rattle.rule_summing.proofs.summing.SummingRuleRowRule.stays_alone.Goals as goal

is_false : (b : Bool) → not b ≡ true → b ≡ false
is_false false e = refl
is_false true e = cc

pub returns : goal.returns
returns c = λ told fits own.
    let row = get_or c.args.block.now.rows c.args.at [] in
    sums_alone c.args.self.now.places row fits
    (sym (c.are_zero_in.ensures ∙ ap (λ places. are_zero places row) c.as_slice.ensures) ∙ is_false c.are_zero_in.result told)
