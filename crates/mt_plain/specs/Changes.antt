-- Whether the rows of a table may have a change, as the plain program finds it (docs/definitions.md, "Mutations"; docs/engines.md, "Mutations").
use Rattle.std.specs.Prelude.{ℕ, ℤ, pos, negsuc, ◌&&◌, ◌||◌, ◌^◌, Bool, true, false, not, List, [], ◌∷◌, is_some, length, nat_eq, nat_le, nat_lt, slice_get}
use Rattle.std.specs.List.{list_all, list_any}
use Rattle.mt_base.specs.Limits.{text_limit}
use Rattle.mt_values.specs.declared.change.Assigned.{Assigned}
use Rattle.mt_values.specs.declared.change.Assigned.TheVariants as assigned
use Rattle.mt_values.specs.declared.change.Assignment.{Assignment}
use Rattle.mt_values.specs.declared.change.Change.{Change}
use Rattle.mt_values.specs.declared.change.Change.TheVariants as change
use Rattle.mt_values.specs.declared.engine.Engine.{Engine}
use Rattle.mt_values.specs.declared.engine.Engine.TheVariants as engine
use Rattle.mt_values.specs.declared.expr.Test.{Test}
use Rattle.mt_values.specs.declared.schema.Column.{Column}
use Rattle.mt_values.specs.declared.schema.Schema.{Schema}
use Rattle.mt_values.specs.declared.value.ColType.{ColType}
use Rattle.mt_values.specs.declared.value.ColType.TheVariants as type
use Rattle.mt_values.specs.declared.value.Value.{Value}
use Rattle.mt_values.specs.declared.value.Value.TheVariants as value
use Rattle.mt_values.specs.Conditions.{Condition, tests_of}
use Rattle.mt_values.specs.Engines.{has_type_that, is_kept_apart}
use Rattle.mt_values.specs.Literals.{integer_below}
use Rattle.mt_values.specs.Values.{type_of}
use Rattle.part_history.specs.mt_model.Mutations.{is_protected}

-- ---- what belongs to a column

-- whether two types are one
abbrev pub same_type : ColType → ColType → Bool
same_type type.UInt8 type.UInt8 = true
same_type type.UInt16 type.UInt16 = true
same_type type.UInt32 type.UInt32 = true
same_type type.UInt64 type.UInt64 = true
same_type type.Int8 type.Int8 = true
same_type type.Int16 type.Int16 = true
same_type type.Int32 type.Int32 = true
same_type type.Int64 type.Int64 = true
same_type type.Text type.Text = true
same_type a b = false

-- whether these bytes are a text that a column may hold
abbrev pub is_text : List ℕ → Bool
is_text bytes = list_all (λ b. nat_lt b (2 ^ 8)) bytes && nat_le (length bytes) text_limit

-- whether a column may hold the value
abbrev pub is_value : Value → Bool
is_value (value.UInt8 n) = nat_lt n (2 ^ 8)
is_value (value.UInt16 n) = nat_lt n (2 ^ 16)
is_value (value.UInt32 n) = nat_lt n (2 ^ 32)
is_value (value.UInt64 n) = nat_lt n (2 ^ 64)
is_value (value.Int8 z) = is_some (integer_below (2 ^ 7) z)
is_value (value.Int16 z) = is_some (integer_below (2 ^ 15) z)
is_value (value.Int32 z) = is_some (integer_below (2 ^ 31) z)
is_value (value.Int64 z) = is_some (integer_below (2 ^ 63) z)
is_value (value.Text bytes) = is_text bytes

-- whether a number has no minus
abbrev pub is_natural : ℤ → Bool
is_natural (pos n) = true
is_natural (negsuc n) = false

-- whether the value is a number without a minus
abbrev pub is_number : Value → Bool
is_number (value.Int8 z) = is_natural z
is_number (value.Int16 z) = is_natural z
is_number (value.Int32 z) = is_natural z
is_number (value.Int64 z) = is_natural z
is_number (value.Text bytes) = false
is_number v = true

-- whether the column at a place is there, and has this type
abbrev pub has_type : List Column → ℕ → ColType → Bool
has_type columns place t = has_type_that (same_type t) (slice_get columns place)

-- whether the columns at two places are there, and have one type
abbrev pub have_one_type : List Column → ℕ → ℕ → Bool
have_one_type columns a b = has_type_that (has_type columns b) (slice_get columns a)

-- whether the value belongs to the column at a place
abbrev pub is_value_at : List Column → ℕ → Value → Bool
is_value_at columns place v = has_type columns place (type_of v) && is_value v

-- whether the value does, and is a number without a minus
abbrev pub is_number_at : List Column → ℕ → Value → Bool
is_number_at columns place v = is_value_at columns place v && is_number v

-- whether the column at a place may be assigned the value of a column, with such a number added or taken away
abbrev pub is_moved : List Column → ℕ → ℕ → Value → Bool
is_moved columns place source number = have_one_type columns place source && is_number_at columns place number

-- whether the column at a place may be assigned this, by the types
abbrev pub is_assignable : List Column → ℕ → Assigned → Bool
is_assignable columns place (assigned.Literal v) = is_value_at columns place v
is_assignable columns place (assigned.Column source) = have_one_type columns place source
is_assignable columns place (assigned.Plus source number) = is_moved columns place source number
is_assignable columns place (assigned.Minus source number) = is_moved columns place source number

-- ---- what an engine lets be changed

-- whether no protected column is read
abbrev pub reads_freely : Schema → Assigned → Bool
reads_freely schema (assigned.Literal v) = true
reads_freely schema (assigned.Column place) = not (is_protected schema place)
reads_freely schema (assigned.Plus place number) = not (is_protected schema place)
reads_freely schema (assigned.Minus place number) = not (is_protected schema place)

-- whether neither the column is the key's, the partition's or protected, nor one that is read
abbrev pub is_free : Schema → Assignment → Bool
is_free schema a =
    not (is_kept_apart schema.key schema.partition a.column) && (not (is_protected schema a.column) && reads_freely schema a.value)

-- whether an assignment is one of the table
abbrev pub is_assignment : Schema → Assignment → Bool
is_assignment schema a = is_assignable schema.columns a.column a.value && is_free schema a

-- whether one of the assignments assigns the column at a place
abbrev pub is_put : List Assignment → ℕ → Bool
is_put puts place = list_any (λ (a : Assignment). nat_eq a.column place) puts

-- whether no two of the assignments assign one column
abbrev pub are_once : List Assignment → Bool
are_once [] = true
are_once (a ∷ puts) = not (is_put puts a.column) && are_once puts

-- whether the assignments are the table's, and none assigns the column of another
abbrev pub are_assignments : Schema → List Assignment → Bool
are_assignments schema puts = list_all (is_assignment schema) puts && are_once puts

-- ---- conditions

-- whether a test is one of the table
abbrev pub is_test : List Column → Test → Bool
is_test columns t = nat_lt t.column (length columns) && list_all (is_value_at columns t.column) t.literals

-- whether merges leave all rows
abbrev pub is_plain : Engine → Bool
is_plain engine.Plain = true
is_plain e = false

-- whether the column at a place is in the key
abbrev pub is_of_key : List ℕ → ℕ → Bool
is_of_key key place = list_any (λ own. nat_eq own place) key

-- whether the tests may be asked, by the engine
abbrev pub may_ask : Schema → List Test → Bool
may_ask schema tests = is_plain schema.engine || list_all (λ (t : Test). is_of_key schema.key t.column) tests

-- whether the tests are the table's, and may be asked
abbrev pub are_asked : Schema → List Test → Bool
are_asked schema tests = list_all (is_test schema.columns) tests && may_ask schema tests

-- whether a condition is one of the changes of the table
abbrev pub is_condition : Schema → Condition Test → Bool
is_condition schema c = are_asked schema (tests_of c)

-- whether the rows of the table may have a change
abbrev pub is_change : Schema → Change → Bool
is_change schema (change.Delete c) = is_condition schema c
is_change schema (change.Update puts c) = are_assignments schema puts && is_condition schema c
