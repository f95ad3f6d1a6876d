-- The lines of replies, and when a statement is refused (docs/replies.md).
use Rattle.std.specs.Prelude.{ℕ, List, [], ◌∷◌, ◌++◌, length, Option, Some, None, Result, Ok, Err, is_some, nat_le, nat_lt, slice_get, codes, if◌then◌else◌}
use Rattle.std.specs.Fmt.{decimal}
use Rattle.std.specs.List.{concat, range_with_len}
use Rattle.std.specs.Option.{option_map}
use Rattle.mt_base.specs.Limits.{column_limit, index_limit, number_limit, part_limit, table_limit}
use Rattle.mt_values.specs.declared.row_fault.DataFault.{DataFault}
use Rattle.mt_values.specs.declared.schema.Column.{Column}
use Rattle.mt_values.specs.declared.schema.KeyOrder.{KeyOrder}
use Rattle.mt_values.specs.declared.schema.Schema.{Schema}
use Rattle.mt_values.specs.declared.schema.SchemaFault.{SchemaFault}
use Rattle.mt_values.specs.declared.schema.SchemaFault.TheVariants as fault
use Rattle.mt_values.specs.declared.schema.SkipIndex.{SkipIndex}
use Rattle.mt_values.specs.declared.statement.CreateText.{CreateText}
use Rattle.mt_values.specs.declared.statement.Element.{Element}
use Rattle.mt_values.specs.declared.statement.InsertText.{InsertText}
use Rattle.mt_values.specs.declared.statement.Selected.{Selected}
use Rattle.mt_values.specs.declared.statement.Selected.TheVariants as selected
use Rattle.mt_values.specs.Engines.{sign_place}
use Rattle.mt_values.specs.Grammar.{columns_of, indexes_of}
use Rattle.mt_values.specs.Values.{Row}
use Rattle.mt_values.specs.Rows.{inserted_rows}
use Rattle.mt_values.specs.Schemas.{schema_fault_as}
use Rattle.mt_model.specs.declared.refusal.Bound.{Bound}
use Rattle.mt_model.specs.declared.refusal.Bound.TheVariants as bound
use Rattle.mt_model.specs.declared.refusal.Reason.{Reason}
use Rattle.mt_model.specs.declared.refusal.Reason.TheVariants as reason
use Rattle.mt_model.specs.declared.refusal.Refusal.{Refusal}
use Rattle.mt_model.specs.declared.refusal.Refusal.TheVariants as refusal
use Rattle.mt_model.specs.declared.refusal.Room.TheVariants as room
use Rattle.mt_model.specs.Clauses.{column_place, first_key, first_unknown, names_of_text, schema_of_create}
use Rattle.mt_model.specs.History.{History, schema_of, creates, column_types, first_of}
use Rattle.mt_model.specs.Refusals.{refusal_of_data}

-- after an accepted command, and after an INSERT without rows: the length of the history
abbrev pub ok_line : ℕ → List ℕ
ok_line h = codes "OK " ++ decimal h ++ 10 ∷ []

-- the head of a SELECT's reply: the number of lines that follow, and the length of the history that they answer
abbrev pub rows_line : ℕ → ℕ → List ℕ
rows_line n h = codes "ROWS " ++ decimal n ++ codes " PREFIX " ++ decimal h ++ 10 ∷ []

abbrev pub rows_reply : List (List ℕ) → ℕ → List ℕ
rows_reply lines h = rows_line (length lines) h ++ concat lines

-- ---- columns by their names

abbrev pub found_or : List ℕ → Option ℕ → Result ℕ Refusal
found_or name None = Err (refusal.NoColumn name)
found_or name (Some place) = Ok place

abbrev pub place_onto : Result ℕ Refusal → Result (List ℕ) Refusal → Result (List ℕ) Refusal
place_onto (Err r) rest = Err r
place_onto (Ok place) (Err r) = Err r
place_onto (Ok place) (Ok places) = Ok (place ∷ places)

-- the places of the columns that are named; the first name that is no column's refuses
abbrev pub places_of : List Column → List (List ℕ) → Result (List ℕ) Refusal
places_of columns [] = Ok []
places_of columns (name ∷ names) = place_onto (found_or name (column_place columns name)) (places_of columns names)

-- ---- CREATE

-- the name of a column, where there is one
abbrev pub column_name : Option Column → List ℕ
column_name None = []
column_name (Some column) = column.name

-- the name of the column at a place
abbrev pub name_at : List Column → ℕ → List ℕ
name_at columns place = column_name (slice_get columns place)

-- the name of an index, where there is one
abbrev pub index_name : Option SkipIndex → List ℕ
index_name None = []
index_name (Some index) = index.name

-- the name of the index at a place
abbrev pub index_name_at : List SkipIndex → ℕ → List ℕ
index_name_at indexes place = index_name (slice_get indexes place)

-- the reason of a refusal for the rule that a schema breaks (docs/replies.md, "Refusals")
abbrev pub reason_of : SchemaFault → Reason
reason_of fault.NoColumns = reason.NoColumns
reason_of (fault.DoubleColumn place) = reason.DoubleColumn
reason_of (fault.DoubleIndex place) = reason.DoubleIndex
reason_of (fault.DoubleKey place) = reason.DoubleKey
reason_of (fault.NotPrefix place) = reason.NotPrefix
reason_of (fault.PartitionType place) = reason.PartitionType
reason_of (fault.VersionType place) = reason.VersionType
reason_of (fault.SignType place) = reason.SignType
reason_of (fault.SignKey place) = reason.SignKey
reason_of (fault.SumType place) = reason.SumType
reason_of (fault.SumKey place) = reason.SumKey
reason_of fault.NothingToSum = reason.NothingToSum
reason_of (fault.AggregateEngine place) = reason.AggregateEngine
reason_of (fault.AggregateKey place) = reason.AggregateKey
reason_of (fault.AggregateType place) = reason.AggregateType
reason_of fault.Granularity = reason.Granularity
reason_of (fault.IndexGranularity place) = reason.IndexGranularity
reason_of (fault.SetSize place) = reason.SetSize

-- the name of the column or index at which a schema breaks a rule; no column has the name "-" (docs/replies.md, "Refusals")
abbrev pub name_of_fault : Schema → SchemaFault → List ℕ
name_of_fault schema fault.NoColumns = codes "-"
name_of_fault schema (fault.DoubleColumn place) = name_at schema.columns place
name_of_fault schema (fault.DoubleIndex place) = index_name_at schema.indexes place
name_of_fault schema (fault.DoubleKey place) = name_at schema.columns place
name_of_fault schema (fault.NotPrefix place) = name_at schema.columns place
name_of_fault schema (fault.PartitionType place) = name_at schema.columns place
name_of_fault schema (fault.VersionType place) = name_at schema.columns place
name_of_fault schema (fault.SignType place) = name_at schema.columns place
name_of_fault schema (fault.SignKey place) = name_at schema.columns place
name_of_fault schema (fault.SumType place) = name_at schema.columns place
name_of_fault schema (fault.SumKey place) = name_at schema.columns place
name_of_fault schema fault.NothingToSum = codes "-"
name_of_fault schema (fault.AggregateEngine place) = name_at schema.columns place
name_of_fault schema (fault.AggregateKey place) = name_at schema.columns place
name_of_fault schema (fault.AggregateType place) = name_at schema.columns place
name_of_fault schema fault.Granularity = codes "-"
name_of_fault schema (fault.IndexGranularity place) = index_name_at schema.indexes place
name_of_fault schema (fault.SetSize place) = index_name_at schema.indexes place

-- the refusal of a schema for the rule that it breaks (docs/replies.md, "Refusals")
abbrev pub refusal_of_schema : Schema → SchemaFault → Refusal
refusal_of_schema schema broken = refusal.Schema (reason_of broken) (name_of_fault schema broken)

-- the refusal of a schema for the first rule that it breaks, by which key is written first (docs/definitions.md, "Schemas")
abbrev pub refusal_of_rules : KeyOrder → Schema → Option Refusal
refusal_of_rules first schema = option_map (refusal_of_schema schema) (schema_fault_as first schema)

-- the first refusal of two
abbrev pub first_refusal : Option Refusal → Option Refusal → Option Refusal
first_refusal (Some r) other = Some r
first_refusal None other = other

-- the bound of columns or of indexes that some elements pass (docs/replies.md, "Refusals")
abbrev pub bound_passed : List Element → Option Bound
bound_passed elements =
    if nat_lt column_limit (length (columns_of elements)) then Some bound.Columns
    else if nat_lt index_limit (length (indexes_of elements)) then Some bound.Indexes
    else None

-- the bound that is passed first in the text, with one of some elements after those before them (docs/replies.md, "Refusals")
abbrev pub first_passed : List Element → List Element → Option Bound
first_passed before [] = None
first_passed before (e ∷ es) = first_of (bound_passed (before ++ e ∷ [])) (first_passed (before ++ e ∷ []) es)

-- what is given, unless it is refused
abbrev pub unless_refused : {X : Type 0} → Option Refusal → X → Result X Refusal
unless_refused (Some r) x = Err r
unless_refused None x = Ok x

-- the first name of a column in a CREATE, in the order of the text, that is no column's (docs/definitions.md, "Schemas")
abbrev pub unknown_column : CreateText → Option Refusal
unknown_column c = option_map refusal.NoColumn (first_unknown (columns_of c.elements) (names_of_text c))

-- the bound of columns or of indexes that a CREATE passes first in its text (docs/replies.md, "Refusals")
abbrev pub too_many_elements : CreateText → Option Refusal
too_many_elements c = option_map refusal.Past (first_passed [] c.elements)

-- the first refusal of a CREATE by its text: by its names, then by the rules of schemas, then by its bounds (docs/definitions.md, "Schemas")
abbrev pub refusal_of_text : CreateText → Option Refusal
refusal_of_text c = first_refusal (unknown_column c) (first_refusal (refusal_of_rules (first_key c.clauses) (schema_of_create c)) (too_many_elements c))

-- the schema that a CREATE writes: its names are its columns', no rule of schemas is broken, and there are not too many columns and indexes
abbrev pub schema_of_text : CreateText → Result Schema Refusal
schema_of_text c = unless_refused (refusal_of_text c) (schema_of_create c)

-- at its turn: there is no table of its name, and there is room for one more
abbrev pub create_turn : List ℕ → History → Option Refusal
create_turn table h =
    if is_some (schema_of table h) then Some (refusal.TableExists table)
    else if nat_lt (creates h) table_limit then None
    else Some (refusal.Past bound.Tables)

-- ---- INSERT

abbrev pub rows_or_refused : Result (List Row) DataFault → Result (List Row) Refusal
rows_or_refused (Ok rows) = Ok rows
rows_or_refused (Err fault) = Err (refusal_of_data fault)

abbrev pub rows_for : InsertText → Option Schema → Result (List Row) Refusal
rows_for i None = Err (refusal.NoTable i.table)
rows_for i (Some schema) = rows_or_refused (inserted_rows (column_types schema) (sign_place schema.engine) i.lines i.ended)

-- At the turn of its next command, by the last number of the table and how many of the statement's commands were accepted before: the table has a
-- number (docs/replies.md, "Refusals").
abbrev pub number_turn : ℕ → ℕ → Option Refusal
number_turn drawn accepted = if nat_le number_limit drawn then Some (refusal.Full room.Numbers accepted) else None

-- At the turn of its next command, by the parts of the partition, the last number of the table, and how many of the statement's commands were
-- accepted before: the partition has room for a part, and the table a number (docs/replies.md, "Refusals").
abbrev pub insert_turn : ℕ → ℕ → ℕ → Option Refusal
insert_turn parts drawn accepted = if nat_le part_limit parts then Some (refusal.Full room.Parts accepted) else number_turn drawn accepted

-- ---- SELECT

-- the places of the selected columns
abbrev pub selected_places : List Column → Selected → Result (List ℕ) Refusal
selected_places columns selected.All = Ok (range_with_len 0 (length columns))
selected_places columns (selected.Named names) = places_of columns names
