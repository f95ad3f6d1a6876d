-- The steps in which changes are made (docs/definitions.md, "Mutations").
use Rattle.std.specs.Prelude.{◌≡◌, ◌+◌, ◌||◌, ℕ, Bool, false, true, if◌then◌else◌, not, nat_eq, List, All, Option, None, Some, filter, fold, get_or, length, slice_get, slice_index_or}
use Rattle.std.specs.List.{list_any, range_with_len}
use Rattle.mt_values.specs.declared.change.Assigned.{Assigned}
use Rattle.mt_values.specs.declared.change.Assigned.TheVariants as assigned
use Rattle.mt_values.specs.declared.change.Assignment.{Assignment}
use Rattle.mt_values.specs.declared.change.Change.{Change}
use Rattle.mt_values.specs.declared.change.Change.TheVariants as change
use Rattle.mt_values.specs.declared.expr.Test.{Test}
use Rattle.mt_values.specs.declared.value.ColType.{ColType}
use Rattle.mt_values.specs.declared.value.Value.{Value}
use Rattle.mt_values.specs.Changes.{assigns, updated, value_for, with_value}
use Rattle.mt_values.specs.Conditions.{Condition}
use Rattle.mt_values.specs.Tests.{eval}
use Rattle.mt_values.specs.Values.{Row, type_of}

-- a row after an UPDATE: assignments where it meets the condition (docs/definitions.md, "Mutations")
abbrev pub updated_if : List Assignment → Condition Test → Row → Row
updated_if assignments condition row = if eval condition row then updated assignments row else row

-- values after assignments that read a row
abbrev pub assigned_from : Row → List Assignment → Row → Row
assigned_from row assignments values = fold (λ (new : Row) (a : Assignment). with_value new a.column (value_for row a.value)) values assignments

-- the columns that were marked and one more
abbrev pub MarksOne : ℕ → List Bool → List Bool → Type 0
MarksOne column old new = (place : ℕ) → slice_index_or new place false ≡ (slice_index_or old place false || nat_eq column place)

-- the columns that were marked and those of assignments
abbrev pub MarksAll : List Assignment → List Bool → List Bool → Type 0
MarksAll assignments old new =
    (place : ℕ) → slice_index_or new place false ≡ (slice_index_or old place false || list_any (λ (a : Assignment). nat_eq a.column place) assignments)

-- the columns that were marked and those that a change assigns
abbrev pub Marks : Change → List Bool → List Bool → Type 0
Marks change old new = (place : ℕ) → slice_index_or new place false ≡ (slice_index_or old place false || assigns change place)

-- the last of the marks, where there is one, is set
abbrev pub EndsMarked : List Bool → Type 0
EndsMarked marks = (place : ℕ) → length marks ≡ place + 1 → slice_index_or marks place false ≡ true

-- ---- rows that are kept by columns

-- what is assigned is a value of this type: a literal of it, or read from a column of it (docs/definitions.md, "Mutations")
abbrev pub HasType : List ColType → ColType → Assigned → Type 0
HasType types t (assigned.Literal v) = type_of v ≡ t
HasType types t (assigned.Column source) = slice_get types source ≡ Some t
HasType types t (assigned.Plus source number) = slice_get types source ≡ Some t
HasType types t (assigned.Minus source number) = slice_get types source ≡ Some t

-- what is assigned is a value of the type of the column at a place, where there is one (docs/definitions.md, "Mutations")
abbrev pub FitsColumn : List ColType → ℕ → Assigned → Type 0
FitsColumn types place x = (t : ColType) → slice_get types place ≡ Some t → HasType types t x

-- an assignment gives a column a value of its type (docs/definitions.md, "Mutations")
abbrev pub IsOfTypes : List ColType → Assignment → Type 0
IsOfTypes types a = FitsColumn types a.column a.value

-- after a change each column has values of its type (docs/definitions.md, "Mutations")
abbrev pub KeepsTypes : List ColType → Change → Type 0
KeepsTypes types (change.Delete condition) = Unit {0}
KeepsTypes types (change.Update assignments condition) = All (IsOfTypes types) assignments

-- what the column at a place is assigned last
abbrev pub last_assigned : ℕ → List Assignment → Option Assigned
last_assigned place assignments =
    fold (λ (found : Option Assigned) (a : Assignment). if nat_eq a.column place then Some a.value else found) None assignments

-- a row's value in the column at a place, which is assigned this where the row meets a condition
abbrev pub put_value : ℕ → Assigned → Bool → Row → Option Value
put_value place x met row = if met then value_for row x else slice_get row place

-- the places of the answers that are false
abbrev pub places_unmet : List Bool → List ℕ
places_unmet met = filter (λ place. not (get_or met place false)) (range_with_len 0 (length met))
