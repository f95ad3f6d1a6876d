-- What a SELECT asks of a table: columns of it alone.
use Rattle.std.proofs.Common.{◌≡◌, ℕ, ◌<◌, Bool, true, false, cond, List, [], ◌∷◌, length, map, refl, sym, ap, ◌∙◌, subst, Option, Some, None, is_some, Result, Ok, Err, unwrap_or}
use Rattle.std.specs.List.{All}
use Rattle.std.specs.Option.{option_map}
use Rattle.std.proofs.lemmas.List.Elements.{All-cons, All-nil}
use Rattle.mt_values.specs.declared.expr.Test.{Test}
use Rattle.mt_values.specs.declared.expr.TestText.{TestText}
use Rattle.mt_values.specs.declared.schema.Column.{Column}
use Rattle.mt_values.specs.declared.schema.Schema.{Schema}
use Rattle.mt_values.specs.declared.statement.SelectText.{SelectText}
use Rattle.mt_values.specs.Conditions.{map_tests, tests_of}
use Rattle.mt_values.proofs.Polish.{tests_of_map}
use Rattle.replies.specs.mt_model.declared.query.Query.{Query}
use Rattle.replies.specs.mt_model.declared.refusal.Refusal.{Refusal}
use Rattle.replies.specs.mt_model.declared.refusal.Refusal.TheVariants as refusal
use Rattle.replies.specs.mt_model.Clauses.{column_place, first_unknown}
use Rattle.replies.specs.mt_model.History.{History, schema_of}
use Rattle.replies.specs.mt_model.Queries.{asked_with, query_for, query_of, query_of_select, refusal_of_condition, refusal_of_tests, test_in}
use Rattle.replies.specs.mt_model.Reply.{first_refusal, selected_places, unless_refused}
use Rattle.session.proofs.Selecting.{place_below}

-- what a SELECT asks, by its table
module _ (s : SelectText) (h : History) where
  pub no_query : schema_of s.table h ≡ None → query_of_select s h ≡ Err (refusal.NoTable s.table)
  no_query none = ap (query_for s) none

  pub query_is : (schema : Schema) → schema_of s.table h ≡ Some schema → query_of_select s h ≡ query_of schema.columns s
  query_is schema there = ap (query_for s) there

-- what is asked, where nothing is refused
module _ (columns : List Column) (s : SelectText) (q : Query) where
  -- the selected columns, and the condition with nothing against it
  record Asked : Type 0 where
    places : selected_places columns s.columns ≡ Ok q.places
    free : refusal_of_condition columns s.condition ≡ None
    condition : q.condition ≡ map_tests (test_in columns) s.condition

  asked : query_of columns s ≡ Ok q → Asked
  asked is = by (selected_places columns s.columns) refl is
    where
      free_by : (places : List ℕ) → selected_places columns s.columns ≡ Ok places → (r : Option Refusal) → refusal_of_condition columns s.condition ≡ r
          → unless_refused r (record { places = places; condition = map_tests (test_in columns) s.condition }) ≡ Ok q → Asked
      free_by places chosen (Some why) e given = cc
      free_by places chosen None e given =
          let same : record { places = places; condition = map_tests (test_in columns) s.condition } ≡ q = cc in
          record { places = chosen ∙ ap (λ (x : Query). Ok x.places) same; free = e; condition = ap (λ (x : Query). x.condition) (sym same) }

      by : (r : Result (List ℕ) Refusal) → selected_places columns s.columns ≡ r → asked_with columns s.condition r ≡ Ok q → Asked
      by (Err why) e given = cc
      by (Ok places) e given = free_by places e (refusal_of_condition columns s.condition) refl given

  pub query_places : query_of columns s ≡ Ok q → selected_places columns s.columns ≡ Ok q.places
  query_places is = (asked is).places

  abbrev Below : Test → Type 0
  Below t = t.column < length columns

  test_below : (t : TestText) (o : Option ℕ) → column_place columns t.column ≡ o → is_some o ≡ true → Below (test_in columns t)
  test_below t None e some = cc
  test_below t (Some place) e some = subst (λ n. n < length columns) (sym (ap (λ (o : Option ℕ). unwrap_or o 0) e)) (place_below columns t.column place e)

  all_below : (ts : List TestText) → first_unknown columns (map (λ (t : TestText). t.column) ts) ≡ None → All Below (map (test_in columns) ts)
  all_below [] none = All-nil Below
  all_below (t ∷ ts) none = by (λ rest. all_below ts rest) (is_some (column_place columns t.column)) refl none
    where
      by : (first_unknown columns (map (λ (x : TestText). x.column) ts) ≡ None → All Below (map (test_in columns) ts)) → (b : Bool) → is_some (column_place columns t.column) ≡ b
          → cond b (first_unknown columns (map (λ (x : TestText). x.column) ts)) (Some t.column) ≡ None → All Below (map (test_in columns) (t ∷ ts))
      by more true e rest = All-cons Below (test_in columns t) (map (test_in columns) ts) (test_below t (column_place columns t.column) refl e) (more rest)
      by more false e rest = cc

  -- each test of the condition is of a column of the table
  pub tests_below : query_of columns s ≡ Ok q → All (λ (t : Test). t.column < length columns) (tests_of q.condition)
  tests_below is =
      let a = asked is in
      let names = map (λ (t : TestText). t.column) (tests_of s.condition) in
      subst (All Below) (sym (ap tests_of a.condition ∙ tests_of_map (test_in columns) s.condition))
      (all_below (tests_of s.condition) (none_first (first_unknown columns names) (refusal_of_tests columns (tests_of s.condition)) a.free))
    where
      none_first : (o : Option (List ℕ)) (other : Option Refusal) → first_refusal (option_map refusal.NoColumn o) other ≡ None → o ≡ None
      none_first None other is = refl
      none_first (Some name) other is = cc
