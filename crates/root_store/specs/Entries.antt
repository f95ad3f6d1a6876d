-- The entries of commands (docs/formats.md, "Entries").
use Rattle.std.specs.Prelude.{◌≡◌, ◌&&◌, ℕ, ◌<◌, ◌^◌, length, List, [], ◌∷◌, ◌++◌, codes, Option, Some, None, Result, Ok, Err, if◌then◌else◌}
use Rattle.std.specs.Result.{result_ok}
use Rattle.sha2.specs.Sha256.{sha256}
use Rattle.mt_base.specs.declared.name.FileId.TheVariants as file
use Rattle.mt_values.specs.declared.command.Command.{Command}
use Rattle.mt_values.specs.declared.command.Command.TheVariants as command
use Rattle.mt_values.specs.declared.schema.Schema.{Schema}
use Rattle.mt_values.specs.declared.statement.Cause.{Cause}
use Rattle.mt_values.specs.declared.statement.Statement.{Statement}
use Rattle.mt_values.specs.declared.statement.Statement.TheVariants as statement
use Rattle.mt_values.specs.Grammar.{same_bytes}
use Rattle.mt_values.specs.Manifests.{entry_bytes}
use Rattle.mt_values.specs.RootNames.{create_name}
use Rattle.mt_values.specs.Script.{statements_of}
use Rattle.mt_outside.specs.Files.{Files, bytes_of}
use Rattle.table_core.specs.mt_model.Commands.{commands_of}
use Rattle.table_core.specs.mt_model.History.{History}
use Rattle.table_core.specs.mt_model.Reply.{schema_of_text}

-- the text of a statement that has an entry, from its first token up to its semicolon (docs/formats.md, "Entries")
abbrev pub entry_text : Statement → Option (List ℕ)
entry_text (statement.Create c) = Some c.text
entry_text (statement.Insert i) = None
entry_text (statement.Select s) = None
entry_text (statement.Explain s) = None
entry_text (statement.Optimize o) = None

-- the schema that a statement with this text gives a table: it is a CREATE of the table that no rule refuses
abbrev pub schema_of_statement : List ℕ → List ℕ → Statement → Option Schema
schema_of_statement table text (statement.Create c) =
    if same_bytes c.table table && same_bytes c.text text then result_ok (schema_of_text c) else None
schema_of_statement table text (statement.Insert i) = None
schema_of_statement table text (statement.Select s) = None
schema_of_statement table text (statement.Explain s) = None
schema_of_statement table text (statement.Optimize o) = None

-- the same of what a text is read as: one statement, and no more
abbrev pub schema_of_items : List ℕ → List ℕ → List (Result Statement Cause) → Option Schema
schema_of_items table text [] = None
schema_of_items table text (Err why ∷ items) = None
schema_of_items table text (Ok s ∷ []) = schema_of_statement table text s
schema_of_items table text (Ok s ∷ item ∷ items) = None

-- the schema that the text of an entry gives a table: the text and a semicolon are one statement, a CREATE of the table, whose own text
-- is this one, with nothing before it and nothing after it (docs/formats.md, "Entries")
abbrev pub schema_of_entry : List ℕ → List ℕ → Option Schema
schema_of_entry table text = schema_of_items table text (statements_of (text ++ codes ";"))

-- A text reads as a command that comes after these entries: the text and a semicolon are one statement, whose own text is this one, and
-- which gives there this command and no other (docs/formats.md, "Entries").
pub record ReadsAs (before : History) (text : List ℕ) (command : Command) : Type 0 where
  pub statement : Statement
  pub alone : statements_of (text ++ codes ";") ≡ Ok statement ∷ []
  pub spelled : entry_text statement ≡ Some text
  pub gives : commands_of before statement ≡ Ok (command ∷ [])

-- bytes are the entry of a command after these entries: those of a text that reads as it, and whose length fits the number before it
pub record IsEntryFor (before : History) (command : Command) (entry : List ℕ) : Type 0 where
  pub text : List ℕ
  pub few : length text < 2 ^ 32
  pub bytes : entry ≡ entry_bytes sha256 text
  pub reads : ReadsAs before text command

-- a folder holds the entry of a command after these entries (docs/formats.md, "Entries")
abbrev pub HoldsEntry : History → Command → Files → Type 0
HoldsEntry before command files = IsEntryFor before command (bytes_of file.Entry files)

-- the name under which a root has the entry of a command after these entries: a CREATE's is that of its table, and an INSERT has none;
-- nor has a mutation, which no root has yet
abbrev pub entry_name : History → Command → Option (List ℕ)
entry_name before (command.Create c) = Some (create_name c.table)
entry_name before (command.Insert i) = None
entry_name before (command.Alter a) = None

-- the command that makes a table
abbrev pub create_of : List ℕ → Schema → Command
create_of table schema = command.Create (record { table = table; schema = schema })

-- bytes are the entry of a table with this schema: that of its CREATE, which reads alike after all entries
abbrev pub IsEntryWith : List ℕ → Schema → List ℕ → Type 0
IsEntryWith table schema entry = IsEntryFor [] (create_of table schema) entry

-- a folder holds it
abbrev pub EntryHolds : List ℕ → Schema → Files → Type 0
EntryHolds table schema files = HoldsEntry [] (create_of table schema) files
