use Rattle.std.proofs.Common.{ℕ, [], sym, ◌∙◌, arith}
use Rattle.mt_values.specs.declared.value.Value.{Value}
use Rattle.rule_law.specs.mt_model.Rules.{is_one_of, summed}
use Rattle.rule_summing.specs.Summed.{changed_from}
use Rattle.rule_summing.proofs.Adding.{changed_all, sums_changed}
use Rattle.rule_summing.proofs.sums.clear_row.Goals as goal

pub returns : goal.returns
returns c =
    let change : ℕ → Value → Value = λ p v. summed (is_one_of c.args.places.now p) v [] in
    changed_all change c.loop-place.sums (changed_from change 0 c.args.sums.now) c.loop-place.place (omega arith) c.loop-place.invariant
    ∙ sym (sums_changed c.args.places.now [] 0 c.args.sums.now)
