use Rattle.std.proofs.Common.{◌≡◌, ◌∙◌, ap, sym}
use Rattle.std.specs.List.{list_all}
use Rattle.mt_values.specs.declared.expr.Comparison.{Comparison}
use Rattle.mt_values.specs.declared.expr.Comparison.TheVariants as comparison
use Rattle.mt_values.proofs.Searches.{equal_told}
use Rattle.predicate.specs.Boxes.{no_within}
use Rattle.predicate.proofs.boxes.each_misses_within.Goals as goal

pub returns-then-is_equal : goal.returns-then-is_equal
returns-then-is_equal c =
    let test = c.args.test.now in
    let equal : test.comparison ≡ comparison.Equal = equal_told test.comparison (sym c.is_equal.ensures ∙ c.if-is_equal.true) in
    c.are_no_literal.ensures ∙ ap (λ (how : Comparison). list_all (no_within how c.args.least.now c.args.greatest.now) test.literals) (sym equal)
