use Rattle.std.proofs.Common.{◌≡◌, List, None, Some, refl, sym, ap, subst, ◌∙◌, unwrap_or, Option, ℕ}
use Rattle.std.specs.List.{filter_map}
use Rattle.mt_values.specs.declared.expr.Literal.{Literal}
use Rattle.mt_model.specs.Queries.{first_alien}
use Rattle.mt_model.proofs.Queries.{alien_at, all_values, kind_is, literal_refuses, none_alien, none_left, test_given, value_at, value_of}
use Rattle.mt_model.proofs.query.test_in.Goals as goal

pub loop-literal-init : goal.loop-literal-init
loop-literal-init c = record { so_far = c.in_ok-literals.ensures; left = refl }

pub returns-in_default : goal.returns-in_default
returns-in_default c =
    let kind = c.type_at-col_type.result in
    let ls = c.as_slice-literal-items.result.now in
    let l = c.literal-item.result in
    let none = sym c.in_default.is ∙ c.in_ok-value.ensures in
    let alien : first_alien kind ls ≡ Some l = sym c.loop-literal.invariant.left ∙ alien_at kind ls c.loop-literal.literal-index l c.loop-literal-test.true c.literal-item.is none in
    literal_refuses c.args.columns.now c.args.test.now kind l c.in_ok-name.name
    (kind_is c.args.columns.now c.args.test.now kind c.unwrap_or-place.result c.find_column.result c.type_at-col_type.ensures c.unwrap_or-place.ensures c.find_column.ensures.place)
    (subst (λ (xs : List Literal). first_alien kind xs ≡ Some l) c.as_slice-literal-items.ensures alien) c.in_ok-name.ensures

pub loop-literal-preserved : goal.loop-literal-preserved
loop-literal-preserved c =
    let kind = c.type_at-col_type.result in
    let ls = c.as_slice-literal-items.result.now in
    let l = c.literal-item.result in
    let i = c.loop-literal.literal-index in
    let found = sym c.in-Some.is ∙ c.in_ok-value.ensures in
    record {
      so_far = c.in_ok-push.ensures.ok ∙ value_at kind ls i l c.loop-literal.literals c.in-Some.value c.loop-literal-test.true c.literal-item.is found c.loop-literal.invariant.so_far;
      left = none_alien kind ls i l c.in-Some.value c.loop-literal-test.true c.literal-item.is found ∙ c.loop-literal.invariant.left;
    }

pub returns : goal.returns
returns c =
    let kind = c.type_at-col_type.result in
    let ls = c.as_slice-literal-items.result.now in
    let i = c.loop-literal.literal-index in
    let none : first_alien kind ls ≡ None = sym c.loop-literal.invariant.left ∙ none_left kind ls i c.loop-literal-test.false in
    let are = all_values kind ls i c.loop-literal.literals c.loop-literal-test.false c.loop-literal.invariant.so_far in
    test_given c.args.columns.now c.args.test.now kind c.unwrap_or-place.result c.in_ok-of.field-0
    (c.unwrap_or-place.ensures ∙ ap (λ (o : Option ℕ). unwrap_or o 0) c.find_column.ensures.place)
    (kind_is c.args.columns.now c.args.test.now kind c.unwrap_or-place.result c.find_column.result c.type_at-col_type.ensures c.unwrap_or-place.ensures c.find_column.ensures.place)
    (subst (λ (xs : List Literal). first_alien kind xs ≡ None) c.as_slice-literal-items.ensures none)
    (c.in_ok-of.ensures ∙ are ∙ ap (filter_map (value_of kind)) c.as_slice-literal-items.ensures)
