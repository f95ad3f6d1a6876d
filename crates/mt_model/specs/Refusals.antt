-- The lines of refusals (docs/replies.md, "Refusals").
use Rattle.std.specs.Prelude.{ℕ, ◌+◌, ◌-◌, ◌*◌, ◌&&◌, ◌||◌, ◌==◌, Bool, nat_le, List, [], ◌∷◌, ◌++◌, codes, if◌then◌else◌}
use Rattle.std.specs.Fmt.{decimal}
use Rattle.mt_values.specs.declared.row_fault.DataFault.{DataFault}
use Rattle.mt_values.specs.declared.row_fault.DataFault.TheVariants as data_fault
use Rattle.mt_values.specs.declared.row_fault.RowFault.{RowFault}
use Rattle.mt_values.specs.declared.row_fault.RowFault.TheVariants as row_fault
use Rattle.mt_values.specs.declared.statement.Cause.{Cause}
use Rattle.mt_values.specs.declared.statement.Cause.TheVariants as cause
use Rattle.mt_model.specs.declared.refusal.Bound.{Bound}
use Rattle.mt_model.specs.declared.refusal.Bound.TheVariants as bound
use Rattle.mt_model.specs.declared.refusal.Reason.{Reason}
use Rattle.mt_model.specs.declared.refusal.Reason.TheVariants as reason
use Rattle.mt_model.specs.declared.refusal.Refusal.{Refusal}
use Rattle.mt_model.specs.declared.refusal.Refusal.TheVariants as refusal
use Rattle.mt_model.specs.declared.refusal.Room.{Room}
use Rattle.mt_model.specs.declared.refusal.Room.TheVariants as room

-- a number after a blank
abbrev pub and_number : ℕ → List ℕ
and_number n = 32 ∷ decimal n

-- a name after a blank
abbrev pub and_name : List ℕ → List ℕ
and_name name = 32 ∷ name

-- the word of a rule of schemas
abbrev pub reason_word : Reason → List ℕ
reason_word reason.NoColumns = codes "no_columns"
reason_word reason.DoubleColumn = codes "double_column"
reason_word reason.DoubleIndex = codes "double_index"
reason_word reason.DoubleKey = codes "double_key"
reason_word reason.NotPrefix = codes "not_prefix"
reason_word reason.PartitionType = codes "partition_type"
reason_word reason.VersionType = codes "version_type"
reason_word reason.SignType = codes "sign_type"
reason_word reason.SignKey = codes "sign_key"
reason_word reason.SumType = codes "sum_type"
reason_word reason.SumKey = codes "sum_key"
reason_word reason.NothingToSum = codes "nothing_to_sum"
reason_word reason.AggregateEngine = codes "aggregate_engine"
reason_word reason.AggregateKey = codes "aggregate_key"
reason_word reason.AggregateType = codes "aggregate_type"
reason_word reason.Granularity = codes "granularity"
reason_word reason.IndexGranularity = codes "granularity"
reason_word reason.SetSize = codes "set_size"

-- a bound by its name and its greatest number
abbrev pub bound_text : Bound → List ℕ
bound_text bound.Tables = codes "tables 64"
bound_text bound.Columns = codes "columns 64"
bound_text bound.Indexes = codes "indexes 8"
bound_text bound.Name = codes "name 64"
bound_text bound.Statement = codes "statement 1048576"
bound_text bound.Value = codes "value 1048576"
bound_text bound.Rows = codes "rows 1048576"
bound_text bound.Depth = codes "depth 64"
bound_text bound.Levels = codes "levels 4294967295"

abbrev pub room_text : Room → List ℕ
room_text room.Parts = codes "parts 3000"
room_text room.Numbers = codes "numbers 4294967295"

-- a refusal's line without its line feed
abbrev pub refusal_text : Refusal → List ℕ
refusal_text (refusal.Grammar place) = codes "E01" ++ and_number place
refusal_text (refusal.NoTable table) = codes "E02" ++ and_name table
refusal_text (refusal.TableExists table) = codes "E03" ++ and_name table
refusal_text (refusal.NoColumn column) = codes "E04" ++ and_name column
refusal_text (refusal.Schema why column) = codes "E05 " ++ reason_word why ++ and_name column
refusal_text (refusal.Literal column place) = codes "E06" ++ and_name column ++ and_number place
refusal_text (refusal.Fields line found wanted) = codes "E07" ++ and_number line ++ and_number found ++ and_number wanted
refusal_text (refusal.Field line field) = codes "E08" ++ and_number line ++ and_number field
refusal_text (refusal.Past b) = codes "E12 " ++ bound_text b
refusal_text (refusal.Full which accepted) = codes "E12 " ++ room_text which ++ and_number accepted
refusal_text (refusal.Unended rows) = codes "E13" ++ and_number rows
refusal_text (refusal.Busy part) = codes "E14" ++ and_name part
refusal_text refusal.Failed = codes "E15"
refusal_text (refusal.Unsettled accepted) = codes "E16" ++ and_number accepted
refusal_text (refusal.Stopped opened now accepted) = codes "E17" ++ and_number opened ++ and_number now ++ and_number accepted
refusal_text (refusal.Sign line) = codes "E18" ++ and_number line
refusal_text (refusal.Damaged table part file) = codes "E19" ++ and_name table ++ and_name part ++ and_name file

abbrev pub refusal_line : Refusal → List ℕ
refusal_line r = refusal_text r ++ 10 ∷ []

-- the number of a refusal
abbrev pub code : Refusal → ℕ
code (refusal.Grammar place) = 1
code (refusal.NoTable table) = 2
code (refusal.TableExists table) = 3
code (refusal.NoColumn column) = 4
code (refusal.Schema why column) = 5
code (refusal.Literal column place) = 6
code (refusal.Fields line found wanted) = 7
code (refusal.Field line field) = 8
code (refusal.Past b) = 12
code (refusal.Full which accepted) = 12
code (refusal.Unended rows) = 13
code (refusal.Busy part) = 14
code refusal.Failed = 15
code (refusal.Unsettled accepted) = 16
code (refusal.Stopped opened now accepted) = 17
code (refusal.Sign line) = 18
code (refusal.Damaged table part file) = 19

-- how many of its statement's commands a refusal says were accepted (docs/definitions-of-runs.md, "Replies and refusals")
abbrev pub accepted_by : Refusal → ℕ
accepted_by (refusal.Full which accepted) = accepted
accepted_by (refusal.Unsettled accepted) = accepted
accepted_by (refusal.Stopped opened now accepted) = accepted
accepted_by r = 0

-- the number of the refusal that a reply is; 0 for one that is none
abbrev pub code_of : List ℕ → ℕ
code_of [] = 0
code_of (e ∷ []) = 0
code_of (e ∷ t ∷ []) = 0
code_of (e ∷ t ∷ u ∷ rest) = if e == 69 then 10 * (t - 48) + (u - 48) else 0

-- a reply says that its statement is refused for what the script says or for a bound, and not for a fault: E01 to E14, and E18
abbrev pub is_refusal : List ℕ → Bool
is_refusal reply = (nat_le 1 (code_of reply) && nat_le (code_of reply) 14) || code_of reply == 18

-- a reply says that bytes of a part are damaged
abbrev pub is_damage : List ℕ → Bool
is_damage reply = code_of reply == 19

-- ---- refusals by what was read

abbrev pub refusal_of_cause : Cause → Refusal
refusal_of_cause (cause.Grammar place) = refusal.Grammar place
refusal_of_cause cause.LongStatement = refusal.Past bound.Statement
refusal_of_cause cause.LongName = refusal.Past bound.Name
refusal_of_cause cause.TooDeep = refusal.Past bound.Depth

abbrev pub refusal_of_row : RowFault → Refusal
refusal_of_row (row_fault.Fields line found wanted) = refusal.Fields line found wanted
refusal_of_row (row_fault.Field line field) = refusal.Field line field
refusal_of_row row_fault.Value = refusal.Past bound.Value
refusal_of_row (row_fault.Sign line) = refusal.Sign line

abbrev pub refusal_of_data : DataFault → Refusal
refusal_of_data (data_fault.Row fault) = refusal_of_row fault
refusal_of_data data_fault.TooMany = refusal.Past bound.Rows
refusal_of_data (data_fault.Unended rows) = refusal.Unended rows
