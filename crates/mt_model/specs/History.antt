-- The list of accepted commands, and what makes it legal (docs/definitions.md, "Histories").
use Rattle.std.specs.Prelude.{◌≡◌, ℕ, ◌<◌, ◌≤◌, Bool, true, false, List, [], ◌∷◌, ◌++◌, length, All, Option, Some, None, ◌&&◌, ◌==◌, if◌then◌else◌, map, filter}
use Rattle.mt_values.specs.declared.annals.Noted.{Noted}
use Rattle.mt_values.specs.declared.command.Entry.{Entry}
use Rattle.mt_values.specs.declared.command.Command.{Command}
use Rattle.mt_values.specs.declared.command.Command.TheVariants as command
use Rattle.mt_values.specs.declared.command.Insert.{Insert}
use Rattle.mt_base.specs.declared.partition.Partition.{Partition}
use Rattle.mt_base.specs.Limits.{column_limit, index_limit, part_limit, root_table_limit}
use Rattle.mt_values.specs.declared.schema.Schema.{Schema}
use Rattle.mt_values.specs.declared.schema.SkipIndex.{SkipIndex}
use Rattle.mt_values.specs.Grammar.{same_bytes}
pub use Rattle.mt_values.specs.Schemas.{column_types}
use Rattle.mt_values.specs.Schemas.{schema_fault}
use Rattle.mt_values.specs.Grid.{AreRowsOf}
use Rattle.mt_values.specs.Tables.{IsPlain, has_sign, partition_of, same_partition}
use Rattle.mt_values.specs.Values.{Row, AreValues}
use Rattle.mt_model.specs.Mutations.{IsChangeOf}

-- the accepted commands of all tables, each with its session, in the order in which they were accepted
abbrev pub History : Type 0
History = List Entry

-- the entries of a list, without their marks (docs/definitions.md, "Histories")
abbrev pub entries_of : List Noted → History
entries_of list = map (λ (n : Noted). n.entry) list

-- the schema that a command gives a table
abbrev pub schema_by : List ℕ → Command → Option Schema
schema_by table (command.Create c) = if same_bytes c.table table then Some c.schema else None
schema_by table (command.Insert i) = None
schema_by table (command.Alter a) = None

abbrev pub first_of : {X : Type 0} → Option X → Option X → Option X
first_of (Some x) other = Some x
first_of None other = other

-- the schema of a table, where there is the table
abbrev pub schema_of : List ℕ → History → Option Schema
schema_of table [] = None
schema_of table (e ∷ es) = first_of (schema_by table e.command) (schema_of table es)

abbrev pub is_create : Command → Bool
is_create (command.Create c) = true
is_create (command.Insert i) = false
is_create (command.Alter a) = false

-- whether a command is an INSERT into a partition of the table (docs/definitions.md, "Histories")
abbrev pub inserts_into : List ℕ → Partition → Command → Bool
inserts_into table partition (command.Create c) = false
inserts_into table partition (command.Insert i) = same_bytes i.table table && same_partition i.partition partition
inserts_into table partition (command.Alter a) = false

-- how many tables were made
abbrev pub creates : History → ℕ
creates h = length (filter (λ (e : Entry). is_create e.command) h)

-- how many INSERTs into a partition of a table were accepted: one without rows has no entry (docs/definitions.md, "Histories")
abbrev pub inserts : List ℕ → Partition → History → ℕ
inserts table partition h = length (filter (λ (e : Entry). inserts_into table partition e.command) h)

-- Each partition of a table has fewer than 3000 INSERTs, so it never has 3000 parts: merges leave at most one part an INSERT (docs/definitions.md, "Histories").
abbrev pub FewInserts : History → Type 0
FewInserts h = (table : List ℕ) (partition : Partition) → inserts table partition h < part_limit

-- the history with these commands of a session as its last entries (docs/definitions.md, "Histories")
abbrev pub entered : History → ℕ → List Command → History
entered h session commands = h ++ map (λ (c : Command). record { session = session; command = c }) commands

-- A schema that a table may have: it breaks no rule of schemas, neither key is empty, the sorting key is made of its own columns and so are the
-- columns of its indexes, and it has at most 64 columns and 8 indexes. So the primary key is made of its own columns too, and a partition column
-- is one of them (docs/definitions.md, "Schemas").
pub record IsTableSchema (schema : Schema) : Type 0 where
  pub sound : schema_fault schema ≡ None
  pub key : 0 < length schema.key
  pub primary : 0 < length schema.primary
  pub own : All (λ place. place < length schema.columns) schema.key
  pub few : length schema.columns ≤ column_limit
  pub indexed : All (λ (index : SkipIndex). index.column < length schema.columns) schema.indexes
  pub few_indexes : length schema.indexes ≤ index_limit

-- rows of one partition of a table: at least one, each with a value of each column's type and within its range, and with a sign of 1 or -1 where the table has one (docs/definitions.md, "Histories")
pub record IsInsertInto (schema : Schema) (i : Insert) : Type 0 where
  pub some : 0 < length i.block.rows
  pub types : i.block.types ≡ column_types schema
  pub rows : AreRowsOf (column_types schema) i.block.rows
  pub values : AreValues i.block.rows
  pub own : All (λ (row : Row). partition_of schema row ≡ i.partition) i.block.rows
  pub signed : All (λ (row : Row). has_sign schema row ≡ true) i.block.rows

-- a command that may come after a history
abbrev pub IsAllowed : History → Command → Type 0
IsAllowed h (command.Create c) = (schema_of c.table h ≡ None) × (creates h < root_table_limit) × IsTableSchema c.schema
IsAllowed h (command.Insert i) = (schema : Schema) × (schema_of i.table h ≡ Some schema) × IsInsertInto schema i
IsAllowed h (command.Alter a) = (schema : Schema) × (schema_of a.table h ≡ Some schema) × IsChangeOf schema a.change

-- each command may come after those before it
abbrev pub IsLegalAfter : History → History → Type 0
IsLegalAfter before [] = Unit {0}
IsLegalAfter before (e ∷ es) = IsAllowed before e.command × IsLegalAfter (before ++ e ∷ []) es

abbrev pub IsLegal : History → Type 0
IsLegal h = IsLegalAfter [] h

-- every table is plain (docs/definitions.md, "Histories")
abbrev pub ArePlain : History → Type 0
ArePlain h = (table : List ℕ) (schema : Schema) → schema_of table h ≡ Some schema → IsPlain schema

-- the commands of a session, in order
abbrev pub own : ℕ → History → List Command
own session [] = []
own session (e ∷ es) = if e.session == session then e.command ∷ own session es else own session es
