use Rattle.std.proofs.Common.{◌≡◌, ◌<◌, ◌∙◌, List, ap, arith, length, subst, sym}
use Rattle.std.specs.List.{list_any}
use Rattle.std.specs.List.Sorted.{IsSorted}
use Rattle.std.proofs.lemmas.Bool.Decides.{nat_tests}
use Rattle.mt_values.specs.declared.value.Value.{Value}
use Rattle.mt_values.specs.Cells.{value_of}
use Rattle.mt_values.specs.Order.{value_cmp}
use Rattle.mt_values.specs.Searches.{lies_within}
use Rattle.mt_values.proofs.literals.Searched.any_within.Goals as goal

pub returns-then-is_empty : goal.returns-then-is_empty
returns-then-is_empty c =
    c.some_within.ensures ∙ ap (list_any (lies_within (value_of c.args.least) (value_of c.args.greatest))) (c.as_slice.ensures ∙ c.self.view_is)

pub found_within-requires : goal.found_within-requires
found_within-requires c = subst (λ (xs : List Value). IsSorted value_cmp xs) (sym c.as_slice-ascending.ensures.value) c.self.invariant.ascends

pub returns : goal.returns
returns c =
    let p = lies_within (value_of c.args.least) (value_of c.args.greatest) in
    let same : c.as_slice-ascending.result.now ≡ c.self.inside.ascending.items = c.as_slice-ascending.ensures.value in
    let some : 0 < length c.as_slice-ascending.result.now = grind (arith, nat_tests, c.is_empty.ensures, c.if-is_empty.false) in
    c.found_within.ensures
    ∙ ap (list_any p) same
    ∙ c.self.invariant.alike (subst (λ (xs : List Value). 0 < length xs) same some) p
    ∙ ap (list_any p) c.self.view_is
