use Rattle.std.proofs.Common.{◌≡◌, ◌∙◌, ap, sym}
use Rattle.std.specs.List.{list_any}
use Rattle.mt_values.specs.declared.expr.Comparison.{Comparison}
use Rattle.mt_values.specs.declared.expr.Comparison.TheVariants as comparison
use Rattle.mt_values.specs.Cells.{value_of}
use Rattle.mt_values.proofs.Searches.{equal_told}
use Rattle.primary_marks.specs.Spans.{up_to}
use Rattle.primary_marks.proofs.spans.some_up_to.Goals as goal

pub returns-then-is_equal : goal.returns-then-is_equal
returns-then-is_equal c =
    let test = c.args.test.now in
    let equal : test.comparison ≡ comparison.Equal = equal_told test.comparison (sym c.is_equal.ensures ∙ c.if-is_equal.true) in
    c.any_up_to.ensures ∙ ap (λ (how : Comparison). list_any (up_to how (value_of c.args.cell)) test.literals) (sym equal)
