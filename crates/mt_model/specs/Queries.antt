-- What a SELECT asks of a table (docs/definitions-of-runs.md, "Answers"; docs/grammar.md, "Statements").
use Rattle.std.specs.Prelude.{ℕ, List, [], ◌∷◌, map, Option, Some, None, Result, Ok, Err, slice_get, unwrap_or}
use Rattle.std.specs.List.{filter_map}
use Rattle.std.specs.Option.{option_map}
use Rattle.mt_values.specs.declared.expr.Literal.{Literal}
use Rattle.mt_values.specs.declared.expr.Test.{Test}
use Rattle.mt_values.specs.declared.expr.TestText.{TestText}
use Rattle.mt_values.specs.declared.schema.Column.{Column}
use Rattle.mt_values.specs.declared.schema.Schema.{Schema}
use Rattle.mt_values.specs.declared.statement.SelectText.{SelectText}
use Rattle.mt_values.specs.declared.value.ColType.{ColType}
use Rattle.mt_values.specs.declared.value.ColType.TheVariants as type
use Rattle.mt_values.specs.declared.value.Value.{Value}
use Rattle.mt_values.specs.Conditions.{Condition, map_tests, tests_of}
use Rattle.mt_values.specs.Literals.{literal_value}
use Rattle.mt_model.specs.declared.query.Query.{Query}
use Rattle.mt_model.specs.declared.refusal.Refusal.{Refusal}
use Rattle.mt_model.specs.declared.refusal.Refusal.TheVariants as refusal
use Rattle.mt_model.specs.Clauses.{column_place, first_unknown}
use Rattle.mt_model.specs.History.{History, schema_of}
use Rattle.mt_model.specs.Reply.{first_refusal, selected_places, unless_refused}

-- the place of the column that a test names
abbrev pub place_in : List Column → TestText → ℕ
place_in columns t = unwrap_or (column_place columns t.column) 0

-- the type of a column, where there is one
abbrev pub column_type : Option Column → ColType
column_type (Some column) = column.col_type
column_type None = type.Text

-- the type of the column at a place
abbrev pub type_at : List Column → ℕ → ColType
type_at columns place = column_type (slice_get columns place)

-- a literal without a value, or else what comes after it
abbrev pub alien_or : Literal → Option Value → Option Literal → Option Literal
alien_or l None other = Some l
alien_or l (Some v) other = other

-- the first literal that does not belong to a column of a type
abbrev pub first_alien : ColType → List Literal → Option Literal
first_alien t [] = None
first_alien t (l ∷ ls) = alien_or l (literal_value t l.text) (first_alien t ls)

-- the refusal of the first literal of a test that does not belong to the test's column (docs/replies.md, "Refusals")
abbrev pub refusal_of_test : List Column → TestText → Option Refusal
refusal_of_test columns t =
    option_map (λ (l : Literal). refusal.Literal t.column l.at) (first_alien (type_at columns (place_in columns t)) t.literals)

-- that of the first of some tests, in the order of the text
abbrev pub refusal_of_tests : List Column → List TestText → Option Refusal
refusal_of_tests columns [] = None
refusal_of_tests columns (t ∷ ts) = first_refusal (refusal_of_test columns t) (refusal_of_tests columns ts)

-- the first refusal of a condition: by the names of its columns, then by its literals (docs/replies.md, "Refusals")
abbrev pub refusal_of_condition : List Column → Condition TestText → Option Refusal
refusal_of_condition columns c =
    first_refusal (option_map refusal.NoColumn (first_unknown columns (map (λ (t : TestText). t.column) (tests_of c))))
    (refusal_of_tests columns (tests_of c))

-- a test with the place of its column, and its literals as the column's values
abbrev pub test_in : List Column → TestText → Test
test_in columns t = record {
  column = place_in columns t;
  comparison = t.comparison;
  literals = filter_map (λ (l : Literal). literal_value (type_at columns (place_in columns t)) l.text) t.literals;
}

-- the places that are selected and the condition, once the columns that are selected are there
abbrev pub asked_with : List Column → Condition TestText → Result (List ℕ) Refusal → Result Query Refusal
asked_with columns c (Err r) = Err r
asked_with columns c (Ok places) =
    unless_refused (refusal_of_condition columns c) (record { places = places; condition = map_tests (test_in columns) c })

-- what a SELECT asks of a table with these columns; or the first name of it that is no column's, or the first literal that does not belong
abbrev pub query_of : List Column → SelectText → Result Query Refusal
query_of columns s = asked_with columns s.condition (selected_places columns s.columns)

abbrev pub query_for : SelectText → Option Schema → Result Query Refusal
query_for s None = Err (refusal.NoTable s.table)
query_for s (Some schema) = query_of schema.columns s

-- what a SELECT asks, if its table is there and it has the columns and literals
abbrev pub query_of_select : SelectText → History → Result Query Refusal
query_of_select s h = query_for s (schema_of s.table h)
