-- Which changes a table's rows may have (docs/definitions.md, "Mutations"; docs/engines.md, "Mutations").
use Rattle.std.specs.Prelude.{◌≡◌, ◌≢◌, ◌⊎◌, ◌||◌, ◌<◌, ℕ, pos, Bool, false, List, [], ◌∷◌, All, AllPairs, Contains, Option, Some, None, is_some, length, map, nat_eq, slice_get}
use Rattle.std.specs.List.{list_any}
use Rattle.mt_values.specs.declared.change.Assigned.{Assigned}
use Rattle.mt_values.specs.declared.change.Assigned.TheVariants as assigned
use Rattle.mt_values.specs.declared.change.Assignment.{Assignment}
use Rattle.mt_values.specs.declared.change.Change.{Change}
use Rattle.mt_values.specs.declared.change.Change.TheVariants as change
use Rattle.mt_values.specs.declared.engine.Aggregate.{Aggregate}
use Rattle.mt_values.specs.declared.engine.Engine.{Engine}
use Rattle.mt_values.specs.declared.expr.Test.{Test}
use Rattle.mt_values.specs.declared.schema.Column.{Column}
use Rattle.mt_values.specs.declared.schema.Schema.{Schema}
use Rattle.mt_values.specs.declared.value.ColType.{ColType}
use Rattle.mt_values.specs.declared.value.Value.{Value}
use Rattle.mt_values.specs.Conditions.{Condition, tests_of}
use Rattle.mt_values.specs.Engines.{is_at, is_kept_apart, sign_place, summed_places, version_place}
use Rattle.mt_values.specs.Literals.{number_value}
use Rattle.mt_values.specs.Schemas.{column_types}
use Rattle.mt_values.specs.Tables.{IsPlain}
use Rattle.mt_values.specs.Values.{IsValue, type_of}

-- ---- what belongs to a column

-- a value of the column at a place: of its type, and one that it may hold (docs/definitions.md, "Mutations")
pub record IsValueAt (types : List ColType) (place : ℕ) (v : Value) : Type 0 where
  pub typed : slice_get types place ≡ Some (type_of v)
  pub held : IsValue v

-- a number without a sign, in the range of the column at a place (docs/definitions.md, "Mutations")
pub record IsNumberAt (types : List ColType) (place : ℕ) (v : Value) : Type 0 where
  pub col_type : ColType
  pub number : ℕ
  pub there : slice_get types place ≡ Some col_type
  pub value_is : number_value col_type (pos number) ≡ Some v

-- the columns at two places are there, and of one type (docs/definitions.md, "Mutations")
pub record AreOfOneType (types : List ColType) (a b : ℕ) : Type 0 where
  pub col_type : ColType
  pub one : slice_get types a ≡ Some col_type
  pub other : slice_get types b ≡ Some col_type

-- what the column at a place may be assigned: a literal of it, a column of its type, or such a column and a number of it (docs/definitions.md, "Mutations"; ClickHouse, ALTER TABLE: UPDATE)
abbrev pub IsAssignable : List ColType → ℕ → Assigned → Type 0
IsAssignable types place (assigned.Literal v) = IsValueAt types place v
IsAssignable types place (assigned.Column source) = AreOfOneType types place source
IsAssignable types place (assigned.Plus source number) = AreOfOneType types place source × IsNumberAt types place number
IsAssignable types place (assigned.Minus source number) = AreOfOneType types place source × IsNumberAt types place number

-- ---- what an engine lets be changed

-- the column is there, and has a function (docs/engines.md, "Mutations")
abbrev pub is_folded : Option (Option Aggregate) → Bool
is_folded None = false
is_folded (Some function) = is_some function

-- the column at a place is the version or the sign, is summed or has a function: merges go by its values (docs/engines.md, "Mutations")
abbrev pub protects : Engine → List (Option Aggregate) → ℕ → Bool
protects engine functions place =
    is_at (version_place engine) place || is_at (sign_place engine) place || list_any (nat_eq place) (summed_places engine) || is_folded (slice_get functions place)

-- the same of a table (docs/engines.md, "Mutations")
abbrev pub is_protected : Schema → ℕ → Bool
is_protected schema place = protects schema.engine (map (λ (c : Column). c.function) schema.columns) place

-- the columns whose values are read (docs/definitions.md, "Mutations")
abbrev pub reads_of : Assigned → List ℕ
reads_of (assigned.Literal v) = []
reads_of (assigned.Column place) = place ∷ []
reads_of (assigned.Plus place number) = place ∷ []
reads_of (assigned.Minus place number) = place ∷ []

-- an assignment: its value belongs to its column, which is neither in the sorting key nor the partition column, and no protected column is assigned or read (docs/definitions.md, "Mutations"; docs/engines.md, "Mutations")
pub record IsAssignment (schema : Schema) (a : Assignment) : Type 0 where
  pub belongs : IsAssignable (column_types schema) a.column a.value
  pub apart : is_kept_apart schema.key schema.partition a.column ≡ false
  pub free : is_protected schema a.column ≡ false
  pub reads : All (λ place. is_protected schema place ≡ false) (reads_of a.value)

-- a test of a column of the table, with literals that belong to it (docs/definitions.md, "Mutations")
pub record IsTestOf (types : List ColType) (t : Test) : Type 0 where
  pub own : t.column < length types
  pub literals : All (IsValueAt types t.column) t.literals

-- the condition of a change: of columns of the table, and on every engine but MergeTree of those of the sorting key alone (docs/definitions.md, "Mutations"; docs/engines.md, "Mutations")
pub record IsConditionOf (schema : Schema) (condition : Condition Test) : Type 0 where
  pub tests : All (IsTestOf (column_types schema)) (tests_of condition)
  pub whole : IsPlain schema ⊎ All (λ (t : Test). Contains schema.key t.column) (tests_of condition)

-- a change that a table's rows may have; an UPDATE assigns no column twice (docs/definitions.md, "Mutations"; ClickHouse, ALTER TABLE: UPDATE and DELETE)
abbrev pub IsChangeOf : Schema → Change → Type 0
IsChangeOf schema (change.Delete condition) = IsConditionOf schema condition
IsChangeOf schema (change.Update assignments condition) =
    All (IsAssignment schema) assignments × AllPairs (λ (a b : Assignment). a.column ≢ b.column) assignments × IsConditionOf schema condition
