use Rattle.std.proofs.Common.{◌≡◌, ◌∙◌, true, false, ap, not, sym}
use Rattle.std.specs.Ordering.{is_eq}
use Rattle.mt_values.specs.declared.value.Value.{Value}
use Rattle.mt_values.specs.Order.{value_cmp}
use Rattle.mt_values.specs.Tests.{is_among}
use Rattle.predicate.proofs.Sought.{apart, together}
use Rattle.predicate.proofs.boxes.are_no_literal.Goals as goal

pub returns-then-is_eq : goal.returns-then-is_eq
returns-then-is_eq c =
    let lo = c.args.least.now in
    let hi = c.args.greatest.now in
    let literals = c.args.literals.now in
    let same : is_eq (value_cmp lo hi) ≡ true = ap is_eq (sym c.cmp_value.ensures) ∙ sym c.is_eq.ensures ∙ c.if-is_eq.true in
    ap not c.has.ensures ∙ ap (λ (v : Value). not (is_among literals v)) c.of.ensures ∙ together lo hi same literals

pub returns : goal.returns
returns c =
    let lo = c.args.least.now in
    let hi = c.args.greatest.now in
    let differ : is_eq (value_cmp lo hi) ≡ false = ap is_eq (sym c.cmp_value.ensures) ∙ sym c.is_eq.ensures ∙ c.if-is_eq.false in
    apart lo hi differ c.args.literals.now
