-- The rows of an INSERT's data (ClickHouse, formats: TabSeparated; docs/grammar.md, "Data").
use Rattle.std.specs.Prelude.{ℕ, suc, zero, ℤ, pos, negsuc, ◌+◌, ◌-◌, ◌*◌, ◌^◌, Bool, false, not, ◌&&◌, ◌==◌, nat_le, min, List, [], ◌∷◌, length, fold, Option, Some, None, Result, Ok, Err, if◌then◌else◌}
use Rattle.std.specs.List.{list_all}
use Rattle.std.specs.Option.{option_map, option_and_then}
use Rattle.std.specs.Char.{is_ascii_digit}
pub use Rattle.mt_base.specs.Limits.{row_limit, text_limit}
use Rattle.mt_values.specs.declared.value.ColType.{ColType}
use Rattle.mt_values.specs.declared.value.ColType.TheVariants as type
use Rattle.mt_values.specs.declared.value.Value.{Value}
use Rattle.mt_values.specs.declared.value.Value.TheVariants as value
use Rattle.mt_values.specs.declared.row_fault.DataFault.{DataFault}
use Rattle.mt_values.specs.declared.row_fault.DataFault.TheVariants as data_fault
use Rattle.mt_values.specs.declared.row_fault.FieldFault.{FieldFault}
use Rattle.mt_values.specs.declared.row_fault.FieldFault.TheVariants as field_fault
use Rattle.mt_values.specs.declared.row_fault.RowFault.{RowFault}
use Rattle.mt_values.specs.declared.row_fault.RowFault.TheVariants as row_fault
use Rattle.mt_values.specs.Values.{Row}
use Rattle.mt_values.specs.Engines.{keeps_sign}
use Rattle.mt_values.specs.Escapes.{escape_of}
use Rattle.mt_values.specs.Lists.{in_front}
use Rattle.mt_values.specs.Script.{line_from, takes_next}

-- ---- fields

-- a byte before the first of some fields
abbrev pub onto_first : ℕ → List (List ℕ) → List (List ℕ)
onto_first b [] = []
onto_first b (f ∷ fs) = (b ∷ f) ∷ fs

-- the fields of a line, which is parted at each tab that no backslash takes
abbrev pub fields_from : Bool → List ℕ → List (List ℕ)
fields_from taken [] = [] ∷ []
fields_from taken (b ∷ bs) =
    if not taken && b == 9 then [] ∷ fields_from false bs
    else onto_first b (fields_from (takes_next taken b) bs)

-- ---- numbers

-- the number that decimal digits say
abbrev pub number_of : List ℕ → ℕ
number_of digits = fold (λ n b. n * 10 + (b - 48)) 0 digits

-- the number that decimal digits say, or a limit where it is greater (docs/grammar.md, "Statements")
abbrev pub number_within : ℕ → List ℕ → ℕ
number_within limit digits = min limit (number_of digits)

-- an unsigned number up to a greatest one: decimal digits, leading zeros allowed
abbrev pub digits_up_to : ℕ → List ℕ → Option ℕ
digits_up_to most [] = None
digits_up_to most (b ∷ bs) =
    if list_all is_ascii_digit (b ∷ bs) && nat_le (number_of (b ∷ bs)) most then Some (number_of (b ∷ bs)) else None

-- with an optional plus in front
abbrev pub unsigned_up_to : ℕ → List ℕ → Option ℕ
unsigned_up_to most [] = None
unsigned_up_to most (b ∷ bs) = if b == 43 then digits_up_to most bs else digits_up_to most (b ∷ bs)

-- a number with a minus in front
abbrev pub minus : ℕ → ℤ
minus zero = pos zero
minus (suc n) = negsuc n

-- a signed number whose least is the negative of this one and whose greatest is one less: an optional plus or minus, then digits
abbrev pub signed_below : ℕ → List ℕ → Option ℤ
signed_below end [] = None
signed_below end (b ∷ bs) =
    if b == 45 then option_map minus (digits_up_to end bs)
    else option_map pos (unsigned_up_to (end - 1) (b ∷ bs))

-- ---- texts

-- a byte before what the rest of a text says
abbrev pub unescaped_behind : (List ℕ → Option (List ℕ)) → ℕ × List ℕ → Option (List ℕ)
unescaped_behind more found = in_front (more found.1) found.0

-- what a text of fewer bytes than this says, each escape for the byte that it stands for; none where an escape is faulty
abbrev pub unescaped_within : ℕ → List ℕ → Option (List ℕ)
unescaped_within zero text = None
unescaped_within (suc n) [] = Some []
unescaped_within (suc n) (b ∷ bs) =
    if b == 92 then option_and_then (unescaped_behind (unescaped_within n)) (escape_of bs)
    else in_front (unescaped_within n bs) b

abbrev pub unescaped : List ℕ → Option (List ℕ)
unescaped text = unescaped_within (length text + 1) text

-- ---- values

abbrev pub or_not_of_type : {X : Type 0} → (X → Value) → Option X → Result Value FieldFault
or_not_of_type value None = Err field_fault.NotOfType
or_not_of_type value (Some x) = Ok (value x)

abbrev pub text_of : Option (List ℕ) → Result Value FieldFault
text_of None = Err field_fault.NotOfType
text_of (Some bytes) = if nat_le (length bytes) text_limit then Ok (value.Text bytes) else Err field_fault.TooLong

-- the value of a field of a column's type, or why it is none
abbrev pub value_of_field : ColType → List ℕ → Result Value FieldFault
value_of_field type.UInt8 field = or_not_of_type value.UInt8 (unsigned_up_to (2 ^ 8 - 1) field)
value_of_field type.UInt16 field = or_not_of_type value.UInt16 (unsigned_up_to (2 ^ 16 - 1) field)
value_of_field type.UInt32 field = or_not_of_type value.UInt32 (unsigned_up_to (2 ^ 32 - 1) field)
value_of_field type.UInt64 field = or_not_of_type value.UInt64 (unsigned_up_to (2 ^ 64 - 1) field)
value_of_field type.Int8 field = or_not_of_type value.Int8 (signed_below (2 ^ 7) field)
value_of_field type.Int16 field = or_not_of_type value.Int16 (signed_below (2 ^ 15) field)
value_of_field type.Int32 field = or_not_of_type value.Int32 (signed_below (2 ^ 31) field)
value_of_field type.Int64 field = or_not_of_type value.Int64 (signed_below (2 ^ 63) field)
value_of_field type.Text field = text_of (unescaped field)

-- ---- rows

-- the fault of a line's field at a place, from 1
abbrev pub fault_of_field : ℕ → ℕ → FieldFault → RowFault
fault_of_field line place field_fault.NotOfType = row_fault.Field line place
fault_of_field line place field_fault.TooLong = row_fault.Value

abbrev pub value_onto : Result Value RowFault → Result Row RowFault → Result Row RowFault
value_onto (Err fault) rest = Err fault
value_onto (Ok v) (Err fault) = Err fault
value_onto (Ok v) (Ok vs) = Ok (v ∷ vs)

abbrev pub at_field : ℕ → ℕ → Result Value FieldFault → Result Value RowFault
at_field line place (Ok v) = Ok v
at_field line place (Err fault) = Err (fault_of_field line place fault)

-- the row of as many fields as there are types, from a place on; the first faulty field from the left decides
abbrev pub row_of_fields : ℕ → ℕ → List ColType → List (List ℕ) → Result Row RowFault
row_of_fields line place [] fields = Ok []
row_of_fields line place (t ∷ ts) [] = Ok []
row_of_fields line place (t ∷ ts) (f ∷ fs) = value_onto (at_field line place (value_of_field t f)) (row_of_fields line (place + 1) ts fs)

-- the row that a line is, or why it is none
abbrev pub row_of_line : List ColType → ℕ → List ℕ → Result Row RowFault
row_of_line types line text =
    if length (fields_from false text) == length types then row_of_fields line 1 types (fields_from false text)
    else Err (row_fault.Fields line (length (fields_from false text)) (length types))

-- a row whose sign, where its table has one, is 1 or -1 (ClickHouse, CollapsingMergeTree: sign; docs/engines.md, "CollapsingMergeTree")
abbrev pub with_sign : Option ℕ → ℕ → Result Row RowFault → Result Row RowFault
with_sign sign line (Err fault) = Err fault
with_sign sign line (Ok row) = if keeps_sign sign row then Ok row else Err (row_fault.Sign line)

-- the row of a table that a line is, or why it is none; its sign is asked after its fields (docs/grammar.md, "Data")
abbrev pub signed_row_of_line : List ColType → Option ℕ → ℕ → List ℕ → Result Row RowFault
signed_row_of_line types sign line text = with_sign sign line (row_of_line types line text)

-- ---- data

abbrev pub row_onto : Result Row RowFault → Result (List Row) DataFault → Result (List Row) DataFault
row_onto (Err fault) rest = Err (data_fault.Row fault)
row_onto (Ok row) (Err fault) = Err fault
row_onto (Ok row) (Ok rows) = Ok (row ∷ rows)

-- the rows that data goes on with after so many, by its first line and what the rest gives
abbrev pub rows_behind : (ℕ → List ℕ → Result (List Row) DataFault) → List ColType → Option ℕ → Bool → ℕ → Option (List ℕ × List ℕ) → Result (List Row) DataFault
rows_behind more types sign ended count None = if ended then Ok [] else Err (data_fault.Unended count)
rows_behind more types sign ended count (Some found) =
    if nat_le row_limit count then Err data_fault.TooMany
    else row_onto (signed_row_of_line types sign (count + 1) found.0) (more (count + 1) found.1)

-- At most so many rows of data, after so many. What no line feed ends is no row. The first faulty line decides.
abbrev pub rows_within : ℕ → List ColType → Option ℕ → Bool → ℕ → List ℕ → Result (List Row) DataFault
rows_within zero types sign ended count lines = Ok []
rows_within (suc n) types sign ended count lines = rows_behind (rows_within n types sign ended) types sign ended count (line_from false lines)

-- the rows that an INSERT adds to a table whose sign, where it has one, is at this place, or why its data is refused; the flag says that the line came which ends data
abbrev pub inserted_rows : List ColType → Option ℕ → List ℕ → Bool → Result (List Row) DataFault
inserted_rows types sign lines ended = rows_within (length lines + 1) types sign ended 0 lines
