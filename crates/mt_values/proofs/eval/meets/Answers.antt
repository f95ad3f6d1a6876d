use Rattle.std.proofs.Common.{◌≡◌, ◌∙◌, ap, sym}
use Rattle.std.specs.List.{list_any}
use Rattle.mt_values.specs.declared.expr.Comparison.{Comparison}
use Rattle.mt_values.specs.declared.expr.Comparison.TheVariants as comparison
use Rattle.mt_values.specs.Order.{value_cmp}
use Rattle.mt_values.specs.Tests.{is_among, says}
use Rattle.mt_values.proofs.Searches.{equal_told}
use Rattle.mt_values.proofs.eval.meets.Goals as goal

pub returns-then-is_equal : goal.returns-then-is_equal
returns-then-is_equal c =
    let literals = c.args.test.now.literals in
    let equal : c.args.test.now.comparison ≡ comparison.Equal = equal_told c.args.test.now.comparison (sym c.is_equal.ensures ∙ c.if-is_equal.true) in
    c.has.ensures
    ∙ ap (is_among literals) c.of.ensures
    ∙ ap (λ (how : Comparison). list_any (λ literal. says how (value_cmp c.args.value.now literal)) literals) (sym equal)
