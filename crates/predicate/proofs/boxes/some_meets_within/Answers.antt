use Rattle.std.proofs.Common.{◌≡◌, ◌∙◌, ap, ap₂, sym}
use Rattle.std.specs.List.{list_any}
use Rattle.mt_values.specs.declared.expr.Comparison.{Comparison}
use Rattle.mt_values.specs.declared.expr.Comparison.TheVariants as comparison
use Rattle.mt_values.specs.declared.value.Value.{Value}
use Rattle.mt_values.proofs.Searches.{equal_told}
use Rattle.predicate.specs.Boxes.{yes_within}
use Rattle.predicate.proofs.boxes.some_meets_within.Goals as goal

pub returns-then-is_equal : goal.returns-then-is_equal
returns-then-is_equal c =
    let test = c.args.test.now in
    let equal : test.comparison ≡ comparison.Equal = equal_told test.comparison (sym c.is_equal.ensures ∙ c.if-is_equal.true) in
    c.any_within.ensures
    ∙ ap₂ (λ (lo hi : Value). list_any (yes_within comparison.Equal lo hi) test.literals) c.of-lo.ensures c.of-hi.ensures
    ∙ ap (λ (how : Comparison). list_any (yes_within how c.args.least.now c.args.greatest.now) test.literals) (sym equal)
