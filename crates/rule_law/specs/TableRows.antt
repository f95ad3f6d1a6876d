-- Rows of a table, as merges take them (docs/engines.md, "Merges").
use Rattle.std.specs.Prelude.{◌≡◌, true, List, All}
use Rattle.mt_values.specs.declared.engine.Engine.{Engine}
use Rattle.mt_values.specs.declared.schema.Schema.{Schema}
use Rattle.mt_values.specs.declared.value.ColType.{ColType}
use Rattle.mt_values.specs.declared.value.Value.{Value}
use Rattle.mt_values.specs.declared.value.Value.TheVariants as value
use Rattle.mt_values.specs.Engines.{keeps_sign, sign_place}
use Rattle.mt_values.specs.Schemas.{column_types}
use Rattle.mt_values.specs.Values.{FitsType, Row, types_of}

-- any value, for places past the end of a row
abbrev pub any_value : Value
any_value = value.UInt8 0

-- a row with a value of each of these types, within its range, and with a sign of 1 or -1 where the engine has a sign (docs/engines.md, "Columns")
pub record IsRowOf (engine : Engine) (types : List ColType) (row : Row) : Type 0 where
  pub typed : types_of row ≡ types
  pub fits : All FitsType row
  pub signed : keeps_sign (sign_place engine) row ≡ true

-- a row of the table: it has a value of each column's type, and keeps to what the engine asks of rows (docs/engines.md, "Columns")
abbrev pub IsTableRow : Schema → Row → Type 0
IsTableRow schema row = IsRowOf schema.engine (column_types schema) row
