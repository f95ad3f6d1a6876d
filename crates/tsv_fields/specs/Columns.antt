-- Columns that values are read into.
use Rattle.std.specs.Prelude.{◌≡◌, ℕ, List, [], ◌∷◌, ◌++◌, map, Result, Ok, Err}
use Rattle.mt_base.specs.declared.stop.Stop.{Stop}
use Rattle.mt_base.specs.Stops.{Refuses}
use Rattle.mt_values.specs.Grid.{Cells}
use Rattle.mt_values.specs.Rows.{value_of_field}
use Rattle.mt_values.specs.Values.{Row}
use Rattle.mt_values.specs.declared.row_fault.FieldFault.{FieldFault}
use Rattle.mt_values.specs.declared.row_fault.RowFault.{RowFault}
use Rattle.mt_values.specs.declared.value.ColType.{ColType}
use Rattle.mt_values.specs.declared.value.Value.{Value}

-- the types of columns
abbrev pub types_in : List Cells → List ColType
types_in columns = map (λ (c : Cells). c.col_type) columns

-- a column with one more value
abbrev pub with_last : Cells → Value → Cells
with_last column v = record { col_type = column.col_type; values = column.values ++ v ∷ [] }

-- columns with the values of a row after their others
abbrev pub with_row_last : List Cells → Row → List Cells
with_row_last (c ∷ cs) (v ∷ vs) = with_last c v ∷ with_row_last cs vs
with_row_last columns row = []

abbrev pub with_value : Cells → Result Value FieldFault → Result Cells FieldFault
with_value column (Ok v) = Ok (with_last column v)
with_value column (Err fault) = Err fault

-- a column with the value of a field after its others, or the field's fault
abbrev pub with_field : Cells → List ℕ → Result Cells FieldFault
with_field column field = with_value column (value_of_field column.col_type field)

-- columns with the values of a row that was read, or why there is none
abbrev pub with_row : List Cells → Result Row RowFault → Result (List Cells) RowFault
with_row columns (Ok row) = Ok (with_row_last columns row)
with_row columns (Err fault) = Err fault

-- what was read into is what is wanted, or the refusal the wanted one, unless memory ran out
abbrev pub IsReadInto : {A F : Type 0} → Result A F → A → Result (Unit {0}) (Stop F) → Type 0
IsReadInto wanted into (Ok done) = wanted ≡ Ok into
IsReadInto wanted into (Err why) = Refuses wanted why
