-- What changes make of rows (docs/definitions.md, "Mutations"; ClickHouse, ALTER TABLE: UPDATE and DELETE).
use Rattle.std.specs.Prelude.{ℕ, Bool, false, not, nat_eq, List, Option, Some, None, filter, fold, if◌then◌else◌, map, set, slice_get}
use Rattle.std.specs.List.{list_any}
use Rattle.std.specs.Option.{option_map}
use Rattle.mt_values.specs.declared.change.Assigned.{Assigned}
use Rattle.mt_values.specs.declared.change.Assigned.TheVariants as assigned
use Rattle.mt_values.specs.declared.change.Assignment.{Assignment}
use Rattle.mt_values.specs.declared.change.Change.{Change}
use Rattle.mt_values.specs.declared.change.Change.TheVariants as change
use Rattle.mt_values.specs.declared.mutation.Mutation.{Mutation}
use Rattle.mt_values.specs.declared.value.Value.{Value}
use Rattle.mt_values.specs.Sums.{less, plus}
use Rattle.mt_values.specs.Tests.{eval}
use Rattle.mt_values.specs.Values.{Row}

-- what is assigned, read from a row: a literal, the value of a column, or that with a number added or taken away, which wraps at its width (docs/definitions.md, "Mutations")
abbrev pub value_for : Row → Assigned → Option Value
value_for row (assigned.Literal v) = Some v
value_for row (assigned.Column place) = slice_get row place
value_for row (assigned.Plus place number) = option_map (λ v. plus v number) (slice_get row place)
value_for row (assigned.Minus place number) = option_map (λ v. less v number) (slice_get row place)

-- a row with a value at a place, where there is a value (docs/definitions.md, "Mutations")
abbrev pub with_value : Row → ℕ → Option Value → Row
with_value row place None = row
with_value row place (Some v) = set row place v

-- a row after assignments, each of which reads the row as it was (docs/definitions.md, "Mutations"; ClickHouse, ALTER TABLE: UPDATE)
abbrev pub updated : List Assignment → Row → Row
updated assignments row = fold (λ (new : Row) (a : Assignment). with_value new a.column (value_for row a.value)) row assignments

-- the rows after a change: a DELETE drops those that meet its condition, an UPDATE assigns in those that do (docs/definitions.md, "Mutations"; ClickHouse, ALTER TABLE: UPDATE and DELETE)
abbrev pub changed : Change → List Row → List Row
changed (change.Delete condition) rows = filter (λ row. not (eval condition row)) rows
changed (change.Update assignments condition) rows = map (λ row. if eval condition row then updated assignments row else row) rows

-- the rows after mutations, one after another (docs/definitions.md, "Mutations")
abbrev pub mutated : List Mutation → List Row → List Row
mutated mutations rows = fold (λ (now : List Row) (m : Mutation). changed m.change now) rows mutations

-- whether a change assigns the column at a place (docs/definitions.md, "Mutations")
abbrev pub assigns : Change → ℕ → Bool
assigns (change.Delete condition) place = false
assigns (change.Update assignments condition) place = list_any (λ (a : Assignment). nat_eq a.column place) assignments

-- whether one of the mutations does (docs/definitions.md, "Mutations")
abbrev pub is_assigned : List Mutation → ℕ → Bool
is_assigned mutations place = list_any (λ (m : Mutation). assigns m.change place) mutations
