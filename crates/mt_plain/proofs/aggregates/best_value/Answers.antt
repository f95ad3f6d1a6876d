use Rattle.std.proofs.Common.{◌≡◌, true, subst, sym, ◌∙◌}
use Rattle.std.specs.List.{All, Contains, list_any}
use Rattle.std.proofs.lemmas.List.{take_all}
use Rattle.std.proofs.lemmas.List.Elements.{All-more, Contains-get_or}
use Rattle.mt_values.specs.declared.value.Value.{Value}
use Rattle.mt_plain.specs.Outcomes.{passes_by}
use Rattle.mt_plain.proofs.Aggregating.{best_exactly, best_none}
use Rattle.mt_plain.proofs.aggregates.best_value.Goals as goal

pub returns-then-not-is_passed : goal.returns-then-not-is_passed
returns-then-not-is_passed c =
    let values = c.args.values.now in
    let v = c.value-item.result in
    let own : Contains values v = subst (Contains values) (sym c.value-item.is) (Contains-get_or values c.loop-value.value-index v c.loop-value-test.true) in
    best_exactly c.args.function values v c.in_ok-twin.field-0 own (sym c.is_passed.ensures ∙ c.if-not-is_passed.true) c.in_ok-twin.ensures

pub loop-value-preserved : goal.loop-value-preserved
loop-value-preserved c =
    let values = c.args.values.now in
    let passed = sym c.is_passed.ensures ∙ c.if-not-is_passed.false in
    All-more (λ (v : Value). list_any (λ other. passes_by c.args.function other v) values ≡ true) values c.loop-value.value-index c.value-item.result c.loop-value-test.true c.loop-value.invariant
    (subst (λ (v : Value). list_any (λ other. passes_by c.args.function other v) values ≡ true) c.value-item.is passed)

pub returns : goal.returns
returns c =
    let values = c.args.values.now in
    best_none c.args.function values
    (subst (All (λ (v : Value). list_any (λ other. passes_by c.args.function other v) values ≡ true)) (take_all c.loop-value.value-index values c.loop-value-test.false) c.loop-value.invariant)
