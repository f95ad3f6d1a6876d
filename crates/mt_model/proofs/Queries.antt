-- What a SELECT asks, as loops go over its tests and their literals.
use Rattle.std.proofs.Common.{◌≡◌, ℕ, ◌+◌, ◌<◌, ◌≤◌, true, false, cond, is_some, List, [], ◌∷◌, ◌++◌, Option, Some, None, Result, Ok, Err, length, drop, take, map, get_or, unwrap_or, refl, sym, ap, ◌∙◌, subst}
use Rattle.std.proofs.Math.ListN.{drop_of_length-le}
use Rattle.std.proofs.lemmas.List.{drop_more, map-append, take_all, take_more}
use Rattle.std.proofs.lemmas.List.Elements.{filter_map-append}
use Rattle.std.specs.List.{cons_option, filter_map}
use Rattle.std.specs.Option.{option_map}
use Rattle.std.specs.Result.{IsErrAnd}
use Rattle.mt_base.specs.Stops.{Gives, Refuses}
use Rattle.mt_base.specs.declared.stop.Stop.{Stop}
use Rattle.mt_base.specs.declared.stop.Stop.TheVariants.{NoMemory, Refused}
use Rattle.mt_values.specs.declared.expr.Literal.{Literal}
use Rattle.mt_values.specs.declared.expr.Test.{Test}
use Rattle.mt_values.specs.declared.expr.TestText.{TestText}
use Rattle.mt_values.specs.declared.schema.Column.{Column}
use Rattle.mt_values.specs.declared.value.ColType.{ColType}
use Rattle.mt_values.specs.declared.value.Value.{Value}
use Rattle.mt_values.specs.declared.statement.SelectText.{SelectText}
use Rattle.mt_values.specs.Conditions.{Condition, map_tests, tests_of}
use Rattle.mt_values.specs.Literals.{literal_value}
use Rattle.mt_model.specs.declared.refusal.Refusal.{Refusal}
use Rattle.mt_model.specs.declared.refusal.Refusal.TheVariants as refusal
use Rattle.mt_model.specs.Clauses.{column_place, first_unknown}
use Rattle.mt_model.specs.declared.query.Query.{Query}
use Rattle.mt_model.specs.Queries.{alien_or, asked_with, query_of, first_alien, place_in, refusal_of_test, refusal_of_tests, test_in, type_at}
use Rattle.mt_model.specs.Reply.{first_refusal, selected_places, unless_refused}

-- ---- what is given, and what is refused

sound : {X : Type 0} (o : Option Refusal) (x y : X) → unless_refused o x ≡ Ok y → o ≡ None
sound None x y is = refl
sound (Some why) x y is = cc

given : {X : Type 0} (o : Option Refusal) (x y : X) → unless_refused o x ≡ Ok y → x ≡ y
given None x y is = cc
given (Some why) x y is = cc

faulty : {X : Type 0} (o : Option Refusal) (x : X) (why : Refusal) → unless_refused o x ≡ Err why → o ≡ Some why
faulty None x why is = cc
faulty (Some r) x why is = let same : r ≡ why = cc in ap Some same

-- a stop that was handed on
pub stop_handed_on : {X : Type 0} (wanted : Result X Refusal) (result : Result X (Stop Refusal)) (stop : Stop Refusal) → IsErrAnd result (λ e. e ≡ stop) → Refuses wanted stop → Gives wanted result
stop_handed_on wanted (Ok x) stop made refuses = absurd made
stop_handed_on wanted (Err e) stop made refuses = subst (Refuses wanted) (sym made) refuses

-- ---- the literals of a test

module _ (t : ColType) where
  abbrev pub value_of : Literal → Option Value
  value_of l = literal_value t l.text

  more_values : (ls : List Literal) (i : ℕ) (l : Literal) (o : Option Value) → i < length ls → l ≡ get_or ls i l → o ≡ value_of l
      → filter_map value_of (take (i + 1) ls) ≡ filter_map value_of (take i ls) ++ cons_option o []
  more_values ls i l o below is found =
      ap (filter_map value_of) (take_more ls i l below)
      ∙ (filter_map-append value_of (take i ls) (get_or ls i l ∷ [])
      ∙ ap (λ (p : Option Value). filter_map value_of (take i ls) ++ cons_option p []) (ap value_of (sym is) ∙ sym found))

  -- a literal that belongs gives one more value
  pub value_at : (ls : List Literal) (i : ℕ) (l : Literal) (values : List Value) (v : Value) → i < length ls → l ≡ get_or ls i l → Some v ≡ value_of l → values ≡ filter_map value_of (take i ls)
      → values ++ v ∷ [] ≡ filter_map value_of (take (i + 1) ls)
  value_at ls i l values v below is found so_far = ap (λ (vs : List Value). vs ++ v ∷ []) so_far ∙ sym (more_values ls i l (Some v) below is found)

  from_literal : (ls : List Literal) (i : ℕ) (l : Literal) (o : Option Value) → i < length ls → l ≡ get_or ls i l → o ≡ value_of l
      → first_alien t (drop i ls) ≡ alien_or l o (first_alien t (drop (i + 1) ls))
  from_literal ls i l o below is found =
      ap (first_alien t) (drop_more ls i l below)
      ∙ (ap (λ (x : Literal). alien_or x (value_of x) (first_alien t (drop (i + 1) ls))) (sym is)
      ∙ ap (λ (p : Option Value). alien_or l p (first_alien t (drop (i + 1) ls))) (sym found))

  -- what is left decides
  pub none_alien : (ls : List Literal) (i : ℕ) (l : Literal) (v : Value) → i < length ls → l ≡ get_or ls i l → Some v ≡ value_of l → first_alien t (drop (i + 1) ls) ≡ first_alien t (drop i ls)
  none_alien ls i l v below is found = sym (from_literal ls i l (Some v) below is found)

  pub alien_at : (ls : List Literal) (i : ℕ) (l : Literal) → i < length ls → l ≡ get_or ls i l → None ≡ value_of l → first_alien t (drop i ls) ≡ Some l
  alien_at ls i l below is none = from_literal ls i l None below is none

  pub none_left : (ls : List Literal) (i : ℕ) → length ls ≤ i → first_alien t (drop i ls) ≡ None
  none_left ls i end = ap (first_alien t) (drop_of_length-le ls end)

  -- after the last literal
  pub all_values : (ls : List Literal) (i : ℕ) (values : List Value) → length ls ≤ i → values ≡ filter_map value_of (take i ls) → values ≡ filter_map value_of ls
  all_values ls i values end so_far = so_far ∙ ap (filter_map value_of) (take_all i ls end)

-- ---- the tests of a condition

module _ (columns : List Column) where
  pub kind_is : (t : TestText) (kind : ColType) (place : ℕ) (o : Option ℕ) → kind ≡ type_at columns place → place ≡ unwrap_or o 0 → o ≡ column_place columns t.column → kind ≡ type_at columns (place_in columns t)
  kind_is t kind place o kind_there place_there found = kind_there ∙ ap (type_at columns) (place_there ∙ ap (λ (x : Option ℕ). unwrap_or x 0) found)

  -- a literal that does not belong refuses its test
  pub literal_refuses : (t : TestText) (kind : ColType) (l : Literal) (name : List ℕ) → kind ≡ type_at columns (place_in columns t) → first_alien kind t.literals ≡ Some l → name ≡ t.column
      → unless_refused (refusal_of_test columns t) (test_in columns t) ≡ Err (refusal.Literal name l.at)
  literal_refuses t kind l name kind_there alien named =
      ap (λ (o : Option Literal). unless_refused (option_map (λ (x : Literal). refusal.Literal t.column x.at) o) (test_in columns t)) (ap (λ (k : ColType). first_alien k t.literals) (sym kind_there) ∙ alien)
      ∙ ap (λ (n : List ℕ). Err (refusal.Literal n l.at)) (sym named)

  -- where all belong, they are the column's values
  pub test_given : (t : TestText) (kind : ColType) (place : ℕ) (values : List Value) → place ≡ place_in columns t → kind ≡ type_at columns (place_in columns t) → first_alien kind t.literals ≡ None → values ≡ filter_map (value_of kind) t.literals
      → unless_refused (refusal_of_test columns t) (test_in columns t) ≡ Ok (record { column = place; comparison = t.comparison; literals = values })
  test_given t kind place values place_there kind_there none are =
      ap (λ (o : Option Literal). unless_refused (option_map (λ (x : Literal). refusal.Literal t.column x.at) o) (test_in columns t)) (ap (λ (k : ColType). first_alien k t.literals) (sym kind_there) ∙ none)
      ∙ (ap (λ (p : ℕ). Ok (record { column = p; comparison = t.comparison; literals = (test_in columns t).literals })) (sym place_there)
      ∙ ap (λ (vs : List Value). Ok (record { column = place; comparison = t.comparison; literals = vs })) (ap (λ (k : ColType). filter_map (value_of k) t.literals) (sym kind_there) ∙ sym are))

  from_test : (ts : List TestText) (i : ℕ) (t : TestText) → i < length ts → t ≡ get_or ts i t
      → refusal_of_tests columns (drop i ts) ≡ first_refusal (refusal_of_test columns t) (refusal_of_tests columns (drop (i + 1) ts))
  from_test ts i t below is =
      ap (refusal_of_tests columns) (drop_more ts i t below)
      ∙ ap (λ (x : TestText). first_refusal (refusal_of_test columns x) (refusal_of_tests columns (drop (i + 1) ts))) (sym is)

  -- a test that nothing refuses comes after those before it, and what is left decides
  pub test_at : (ts : List TestText) (i : ℕ) (t : TestText) (found : List Test) (x : Test) → i < length ts → t ≡ get_or ts i t → unless_refused (refusal_of_test columns t) (test_in columns t) ≡ Ok x
      → found ≡ map (test_in columns) (take i ts) → found ++ x ∷ [] ≡ map (test_in columns) (take (i + 1) ts)
  test_at ts i t found x below is given_x so_far =
      ap (λ (xs : List Test). xs ++ x ∷ []) so_far
      ∙ (ap (λ (y : Test). map (test_in columns) (take i ts) ++ y ∷ []) (sym (given (refusal_of_test columns t) (test_in columns t) x given_x) ∙ ap (test_in columns) is)
      ∙ sym (ap (map (test_in columns)) (take_more ts i t below) ∙ map-append (test_in columns) (take i ts) (get_or ts i t ∷ [])))

  pub test_passes : (ts : List TestText) (i : ℕ) (t : TestText) (x : Test) → i < length ts → t ≡ get_or ts i t → unless_refused (refusal_of_test columns t) (test_in columns t) ≡ Ok x
      → refusal_of_tests columns (drop (i + 1) ts) ≡ refusal_of_tests columns (drop i ts)
  test_passes ts i t x below is given_x =
      sym (from_test ts i t below is ∙ ap (λ (o : Option Refusal). first_refusal o (refusal_of_tests columns (drop (i + 1) ts))) (sound (refusal_of_test columns t) (test_in columns t) x given_x))

  pub test_refuses : (ts : List TestText) (i : ℕ) (t : TestText) (why : Refusal) → i < length ts → t ≡ get_or ts i t → unless_refused (refusal_of_test columns t) (test_in columns t) ≡ Err why
      → refusal_of_tests columns (drop i ts) ≡ Some why
  test_refuses ts i t why below is refused =
      from_test ts i t below is ∙ ap (λ (o : Option Refusal). first_refusal o (refusal_of_tests columns (drop (i + 1) ts))) (faulty (refusal_of_test columns t) (test_in columns t) why refused)

  pub no_test_left : (ts : List TestText) (i : ℕ) → length ts ≤ i → refusal_of_tests columns (drop i ts) ≡ None
  no_test_left ts i end = ap (refusal_of_tests columns) (drop_of_length-le ts end)

  -- why a test stops is why they do
  pub tests_stop : (ts : List TestText) (i : ℕ) (t : TestText) (stop : Stop Refusal) → i < length ts → t ≡ get_or ts i t → refusal_of_tests columns (drop i ts) ≡ refusal_of_tests columns ts
      → Refuses (unless_refused (refusal_of_test columns t) (test_in columns t)) stop → Refuses (unless_refused (refusal_of_tests columns ts) (map (test_in columns) ts)) stop
  tests_stop ts i t NoMemory below is left refused = tt
  tests_stop ts i t (Refused why) below is left refused = ap (λ (o : Option Refusal). unless_refused o (map (test_in columns) ts)) (sym left ∙ test_refuses ts i t why below is refused)

  -- after the last test
  pub all_tests : (ts : List TestText) (i : ℕ) (found : List Test) → length ts ≤ i → found ≡ map (test_in columns) (take i ts) → refusal_of_tests columns (drop i ts) ≡ refusal_of_tests columns ts
      → unless_refused (refusal_of_tests columns ts) (map (test_in columns) ts) ≡ Ok found
  all_tests ts i found end so_far left =
      ap (λ (o : Option Refusal). unless_refused o (map (test_in columns) ts)) (sym left ∙ no_test_left ts i end)
      ∙ ap Ok (sym (so_far ∙ ap (map (test_in columns)) (take_all i ts end)))

  -- ---- names that are no column's

  abbrev pub names_of : List TestText → List (List ℕ)
  names_of ts = map (λ (t : TestText). t.column) ts

  from_name : (ts : List TestText) (i : ℕ) (t : TestText) → i < length ts → t ≡ get_or ts i t
      → first_unknown columns (names_of (drop i ts)) ≡ cond (is_some (column_place columns t.column)) (first_unknown columns (names_of (drop (i + 1) ts))) (Some t.column)
  from_name ts i t below is =
      ap (λ (us : List TestText). first_unknown columns (names_of us)) (drop_more ts i t below)
      ∙ ap (λ (u : TestText). cond (is_some (column_place columns u.column)) (first_unknown columns (names_of (drop (i + 1) ts))) (Some u.column)) (sym is)

  pub name_unknown : (ts : List TestText) (i : ℕ) (t : TestText) → i < length ts → t ≡ get_or ts i t → is_some (column_place columns t.column) ≡ false → first_unknown columns (names_of (drop i ts)) ≡ Some t.column
  name_unknown ts i t below is none = from_name ts i t below is ∙ ap (λ b. cond b (first_unknown columns (names_of (drop (i + 1) ts))) (Some t.column)) none

  pub name_known : (ts : List TestText) (i : ℕ) (t : TestText) → i < length ts → t ≡ get_or ts i t → is_some (column_place columns t.column) ≡ true
      → first_unknown columns (names_of (drop (i + 1) ts)) ≡ first_unknown columns (names_of (drop i ts))
  name_known ts i t below is some = sym (from_name ts i t below is ∙ ap (λ b. cond b (first_unknown columns (names_of (drop (i + 1) ts))) (Some t.column)) some)

  pub no_name_left : (ts : List TestText) (i : ℕ) → length ts ≤ i → first_unknown columns (names_of (drop i ts)) ≡ None
  no_name_left ts i end = ap (λ (us : List TestText). first_unknown columns (names_of us)) (drop_of_length-le ts end)

-- ---- what a SELECT asks, of these places and tests

module _ (columns : List Column) (s : SelectText) (places : List ℕ) (tests : List TestText) (chosen : selected_places columns s.columns ≡ Ok places) (tests_are : tests ≡ tests_of s.condition) where
  abbrev Asked : Query
  Asked = record { places = places; condition = map_tests (test_in columns) s.condition }

  asked_is : query_of columns s ≡ unless_refused (first_refusal (option_map refusal.NoColumn (first_unknown columns (names_of columns tests))) (refusal_of_tests columns tests)) Asked
  asked_is =
      ap (asked_with columns s.condition) chosen
      ∙ ap (λ (ts : List TestText). unless_refused (first_refusal (option_map refusal.NoColumn (first_unknown columns (names_of columns ts))) (refusal_of_tests columns ts)) Asked) (sym tests_are)

  pub unknown_asked : (name told : List ℕ) → Some name ≡ first_unknown columns (names_of columns tests) → told ≡ name → query_of columns s ≡ Err (refusal.NoColumn told)
  unknown_asked name told found same =
      asked_is
      ∙ (ap (λ (o : Option (List ℕ)). unless_refused (first_refusal (option_map refusal.NoColumn o) (refusal_of_tests columns tests)) Asked) (sym found)
      ∙ ap (λ (n : List ℕ). Err (refusal.NoColumn n)) (sym same))

  -- each name is a column's
  module _ (known : None ≡ first_unknown columns (names_of columns tests)) where
    tests_decide : query_of columns s ≡ unless_refused (refusal_of_tests columns tests) Asked
    tests_decide = asked_is ∙ ap (λ (o : Option (List ℕ)). unless_refused (first_refusal (option_map refusal.NoColumn o) (refusal_of_tests columns tests)) Asked) (sym known)

    pub tests_asked : (stop : Stop Refusal) → Refuses (unless_refused (refusal_of_tests columns tests) (map (test_in columns) tests)) stop → Refuses (query_of columns s) stop
    tests_asked NoMemory refused = tt
    tests_asked (Refused why) refused = tests_decide ∙ ap (λ (o : Option Refusal). unless_refused o Asked) (faulty (refusal_of_tests columns tests) (map (test_in columns) tests) why refused)

    module _ (found : List Test) (all : unless_refused (refusal_of_tests columns tests) (map (test_in columns) tests) ≡ Ok found) where
      pub found_are : found ≡ map (test_in columns) (tests_of s.condition)
      found_are = sym (given (refusal_of_tests columns tests) (map (test_in columns) tests) found all) ∙ ap (map (test_in columns)) tests_are

      pub query_asked : (condition : Condition Test) → condition ≡ map_tests (test_in columns) s.condition → query_of columns s ≡ Ok (record { places = places; condition = condition })
      query_asked condition is =
          tests_decide
          ∙ (ap (λ (o : Option Refusal). unless_refused o Asked) (sound (refusal_of_tests columns tests) (map (test_in columns) tests) found all)
          ∙ ap (λ (c : Condition Test). Ok (record { places = places; condition = c })) (sym is))
