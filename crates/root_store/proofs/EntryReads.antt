-- What the text of an entry reads as, and the schema that is found in it.
use Rattle.std.proofs.Common.{◌≡◌, ◌&&◌, ◌++◌, Bool, Option, true, false, cond, List, ℕ, [], ◌∷◌, codes, Some, None, Ok, Err, Result, refl, sym, ap, ap₂, ◌∙◌}
use Rattle.std.specs.Result.{result_ok}
use Rattle.mt_values.specs.declared.command.Command.{Command}
use Rattle.mt_values.specs.declared.command.Command.TheVariants as command
use Rattle.mt_values.specs.declared.command.Create.{Create}
use Rattle.mt_values.specs.declared.schema.Schema.{Schema}
use Rattle.mt_values.specs.declared.statement.Cause.{Cause}
use Rattle.mt_values.specs.declared.statement.CreateText.{CreateText}
use Rattle.mt_values.specs.declared.statement.Statement.{Statement}
use Rattle.mt_values.specs.declared.statement.Statement.TheVariants as statement
use Rattle.mt_values.specs.Grammar.{same_bytes}
use Rattle.mt_values.specs.Script.{statements_of}
use Rattle.table_core.specs.mt_model.declared.refusal.Refusal.{Refusal}
use Rattle.mt_outside.specs.Files.{Files}
use Rattle.table_core.specs.mt_model.Commands.{commands_of, create_commands, no_commands}
use Rattle.table_core.specs.mt_model.History.{History}
use Rattle.table_core.specs.mt_model.Queries.{query_of_select}
use Rattle.table_core.specs.mt_model.declared.query.Query.{Query}
use Rattle.table_core.specs.mt_model.Reply.{schema_of_text}
use Rattle.table_core.proofs.MtModelTables.{itself_same, same_is}
use Rattle.root_store.specs.Entries.{HoldsEntry, ReadsAs, create_of, schema_of_statement, schema_of_items, schema_of_entry, entry_text}

abbrev Item : Type 0
Item = Result Statement Cause

abbrev Commands : Type 0
Commands = Result (List Command) Refusal

one_item : (s t : Statement) → ◌≡◌ {A = List Item} (Ok s ∷ []) (Ok t ∷ []) → s ≡ t
one_item s t is = cc

one_given : (a b : Command) → ◌≡◌ {A = Commands} (Ok (a ∷ [])) (Ok (b ∷ [])) → a ≡ b
one_given a b is = cc

-- a text reads as one command
pub one_read : (text : List ℕ) (a b : Command) → ReadsAs [] text a → ReadsAs [] text b → a ≡ b
one_read text a b x y =
    let same : x.statement ≡ y.statement = one_item x.statement y.statement (sym x.alone ∙ y.alone) in
    one_given a b (sym x.gives ∙ (ap (commands_of []) same ∙ y.gives))

one_create : (c d : Create) → command.Create c ≡ command.Create d → c ≡ d
one_create c d is = cc

-- so it gives one schema
pub one_schema : (text table : List ℕ) (a b : Schema) → ReadsAs [] text (create_of table a) → ReadsAs [] text (create_of table b) → a ≡ b
one_schema text table a b x y = ap (λ (c : Create). c.schema) (one_create (record { table = table; schema = a }) (record { table = table; schema = b }) (one_read text (create_of table a) (create_of table b) x y))

-- a statement with an entry that makes a table does so after any entries
makes_after : (before after : History) (text table : List ℕ) (schema : Schema) (s : Statement) → entry_text s ≡ Some text → commands_of before s ≡ Ok (create_of table schema ∷ []) → commands_of after s ≡ Ok (create_of table schema ∷ [])
makes_after before after text table schema (statement.Create c) spelled is = is
makes_after before after text table schema (statement.Insert i) spelled is = absurd cc
makes_after before after text table schema (statement.Select s) spelled is = absurd cc
makes_after before after text table schema (statement.Explain s) spelled is = absurd cc
makes_after before after text table schema (statement.Optimize o) spelled is = absurd cc

-- so the entry of a table is that after any entries
pub entry_after : (before after : History) (table : List ℕ) (schema : Schema) (files : Files) → HoldsEntry before (create_of table schema) files → HoldsEntry after (create_of table schema) files
entry_after before after table schema files e =
    let r = e.reads in
    record {
      text = e.text;
      few = e.few;
      bytes = e.bytes;
      reads = record { statement = r.statement; alone = r.alone; spelled = r.spelled; gives = makes_after before after e.text table schema r.statement r.spelled r.gives };
    }

-- ---- the schema that is found

ok_is : (r : Result Schema Refusal) (schema : Schema) → result_ok r ≡ Some schema → r ≡ Ok schema
ok_is (Ok x) schema is = cc
ok_is (Err why) schema is = absurd cc

-- what a statement is by which a schema is found: it gives the command, and its text is the entry's
abbrev IsFound : List ℕ → List ℕ → Schema → Statement → Type 0
IsFound table text schema s = (commands_of [] s ≡ Ok (create_of table schema ∷ [])) × (entry_text s ≡ Some text)

statement_gives : (table text : List ℕ) (schema : Schema) (s : Statement) → schema_of_statement table text s ≡ Some schema → IsFound table text schema s
statement_gives table text schema (statement.Insert i) is = absurd cc
statement_gives table text schema (statement.Select s) is = absurd cc
statement_gives table text schema (statement.Explain s) is = absurd cc
statement_gives table text schema (statement.Optimize o) is = absurd cc
statement_gives table text schema (statement.Create c) is = by (same_bytes c.table table) (same_bytes c.text text) refl refl is
  where
    by : (a b : Bool) → same_bytes c.table table ≡ a → same_bytes c.text text ≡ b → cond (a && b) (result_ok (schema_of_text c)) None ≡ Some schema → IsFound table text schema (statement.Create c)
    by true true same spelled found = (
      ap (create_commands c.table) (ok_is (schema_of_text c) schema found) ∙ ap (λ (t : List ℕ). Ok (create_of t schema ∷ [])) (same_is c.table table same),
      ap Some (same_is c.text text spelled),
    )
    by true false same other none = absurd cc
    by false b other spelled none = absurd cc

items_read : (table text : List ℕ) (schema : Schema) (items : List Item) → statements_of (text ++ codes ";") ≡ items → schema_of_items table text items ≡ Some schema → ReadsAs [] text (create_of table schema)
items_read table text schema [] are is = absurd cc
items_read table text schema (Err why ∷ items) are is = absurd cc
items_read table text schema (Ok s ∷ item ∷ items) are is = absurd cc
items_read table text schema (Ok s ∷ []) are is =
    let found = statement_gives table text schema s is in
    record { statement = s; alone = are; spelled = found.1; gives = found.0 }

-- the text of an entry in which a schema is found reads as the CREATE of the table
pub reads_as : (table text : List ℕ) (schema : Schema) → schema_of_entry table text ≡ Some schema → ReadsAs [] text (create_of table schema)
reads_as table text schema is = items_read table text schema (statements_of (text ++ codes ";")) refl is

no_create : (r : Result Query Refusal) (c : Command) → no_commands r ≡ Ok (c ∷ []) → ⊥
no_create (Ok query) c is = cc
no_create (Err why) c is = cc

created_by : (table text : List ℕ) (schema : Schema) (c : CreateText) (r : Result Schema Refusal) → c.text ≡ text → schema_of_text c ≡ r → create_commands c.table r ≡ Ok (create_of table schema ∷ [])
    → schema_of_statement table text (statement.Create c) ≡ Some schema
created_by table text schema c (Err why) spelled read is = absurd cc
created_by table text schema c (Ok x) spelled read is =
    let one = one_create (record { table = c.table; schema = x }) (record { table = table; schema = schema }) (one_given (create_of c.table x) (create_of table schema) is) in
    let own : same_bytes c.table table ≡ true = ap (λ (d : Create). same_bytes c.table d.table) (sym one) ∙ itself_same c.table in
    let itself : same_bytes c.text text ≡ true = ap (same_bytes c.text) (sym spelled) ∙ itself_same c.text in
    ap₂ (λ (b : Bool) (r : Result Schema Refusal). cond b (result_ok r) None) (ap₂ (λ (a b : Bool). a && b) own itself) read ∙ ap (λ (d : Create). Some d.schema) one

one_text : (a b : List ℕ) → ◌≡◌ {A = Option (List ℕ)} (Some a) (Some b) → a ≡ b
one_text a b is = cc

given_by : (table text : List ℕ) (schema : Schema) (s : Statement) → entry_text s ≡ Some text → commands_of [] s ≡ Ok (create_of table schema ∷ []) → schema_of_statement table text s ≡ Some schema
given_by table text schema (statement.Create c) spelled is = created_by table text schema c (schema_of_text c) (one_text c.text text spelled) refl is
given_by table text schema (statement.Insert i) spelled is = absurd cc
given_by table text schema (statement.Select s) spelled is = absurd (no_create (query_of_select s []) (create_of table schema) is)
given_by table text schema (statement.Explain s) spelled is = absurd (no_create (query_of_select s []) (create_of table schema) is)
given_by table text schema (statement.Optimize o) spelled is = absurd cc

-- and one that reads so has the schema
pub found_as : (table text : List ℕ) (schema : Schema) → ReadsAs [] text (create_of table schema) → schema_of_entry table text ≡ Some schema
found_as table text schema reads = ap (schema_of_items table text) reads.alone ∙ given_by table text schema reads.statement reads.spelled reads.gives
