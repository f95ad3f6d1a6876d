-- The commands that a statement gives (docs/definitions-of-runs.md, "Commands of statements"; ClickHouse, INSERT INTO and MergeTree: PARTITION BY).
use Rattle.std.specs.Prelude.{ℕ, not, List, [], ◌∷◌, filter, map, Option, Some, None, Result, Ok, Err}
use Rattle.mt_base.specs.declared.partition.Partition.{Partition}
use Rattle.mt_values.specs.declared.command.Command.{Command}
use Rattle.mt_values.specs.declared.command.Command.TheVariants as command
use Rattle.mt_values.specs.declared.schema.Schema.{Schema}
use Rattle.mt_values.specs.declared.statement.InsertText.{InsertText}
use Rattle.mt_values.specs.declared.statement.Statement.{Statement}
use Rattle.mt_values.specs.declared.statement.Statement.TheVariants as statement
use Rattle.mt_values.specs.Values.{Row}
use Rattle.mt_values.specs.Tables.{partition_of, same_partition}
use Rattle.mt_model.specs.declared.refusal.Refusal.{Refusal}
use Rattle.mt_model.specs.declared.refusal.Refusal.TheVariants as refusal
use Rattle.mt_model.specs.History.{History, schema_of, column_types}
use Rattle.mt_model.specs.declared.query.Query.{Query}
use Rattle.mt_model.specs.Queries.{query_of_select}
use Rattle.mt_model.specs.Reply.{rows_for, schema_of_text}

-- the rows of one partition, in their order (docs/definitions-of-runs.md, "Commands of statements")
abbrev pub rows_in : Schema → Partition → List Row → List Row
rows_in schema partition rows = filter (λ (row : Row). same_partition (partition_of schema row) partition) rows

-- the other partitions of a list (docs/definitions-of-runs.md, "Commands of statements")
abbrev pub other_partitions : Partition → List Partition → List Partition
other_partitions partition others = filter (λ (p : Partition). not (same_partition p partition)) others

-- the partitions of rows, each once, in the order in which they first occur (docs/definitions-of-runs.md, "Commands of statements")
abbrev pub partitions_of : Schema → List Row → List Partition
partitions_of schema [] = []
partitions_of schema (row ∷ rows) = partition_of schema row ∷ other_partitions (partition_of schema row) (partitions_of schema rows)

-- the command that adds those of the rows that are of one partition (docs/definitions-of-runs.md, "Commands of statements")
abbrev pub insert_command : Schema → List ℕ → List Row → Partition → Command
insert_command schema table rows partition =
    command.Insert (record { table = table; partition = partition; block = record { types = column_types schema; rows = rows_in schema partition rows } })

-- the commands that add rows: one for each of their partitions (docs/definitions-of-runs.md, "Commands of statements")
abbrev pub insert_commands : Schema → List ℕ → List Row → List Command
insert_commands schema table rows = map (insert_command schema table rows) (partitions_of schema rows)

-- the command of a CREATE, whose text gives the schema (docs/definitions-of-runs.md, "Commands of statements")
abbrev pub create_commands : List ℕ → Result Schema Refusal → Result (List Command) Refusal
create_commands table (Err why) = Err why
create_commands table (Ok schema) = Ok (command.Create (record { table = table; schema = schema }) ∷ [])

-- the commands of rows that were read, if they were (docs/definitions-of-runs.md, "Commands of statements")
abbrev pub commands_of_rows : Schema → List ℕ → Result (List Row) Refusal → Result (List Command) Refusal
commands_of_rows schema table (Err why) = Err why
commands_of_rows schema table (Ok rows) = Ok (insert_commands schema table rows)

-- the commands of an INSERT, if its table is there (docs/definitions-of-runs.md, "Commands of statements")
abbrev pub commands_for : InsertText → Option Schema → Result (List Command) Refusal
commands_for i None = Err (refusal.NoTable i.table)
commands_for i (Some schema) = commands_of_rows schema i.table (rows_for i (Some schema))

-- a SELECT or an EXPLAIN has no command, if its table and its columns are there, and its literals belong to them (docs/definitions-of-runs.md, "Commands of statements")
abbrev pub no_commands : Result Query Refusal → Result (List Command) Refusal
no_commands (Err why) = Err why
no_commands (Ok query) = Ok []

-- an OPTIMIZE has no command, if its table is there (docs/definitions-of-runs.md, "Commands of statements")
abbrev pub none_on : List ℕ → Option Schema → Result (List Command) Refusal
none_on table None = Err (refusal.NoTable table)
none_on table (Some schema) = Ok []

-- the commands that a statement gives after a history, or why its text, its table or its data refuses it (docs/definitions-of-runs.md, "Commands of statements")
abbrev pub commands_of : History → Statement → Result (List Command) Refusal
commands_of h (statement.Create c) = create_commands c.table (schema_of_text c)
commands_of h (statement.Insert i) = commands_for i (schema_of i.table h)
commands_of h (statement.Select s) = no_commands (query_of_select s h)
commands_of h (statement.Explain s) = no_commands (query_of_select s h)
commands_of h (statement.Optimize o) = none_on o.table (schema_of o.table h)
