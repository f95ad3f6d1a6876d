-- The schema that an entry gives a table is one that a table may have.
use Rattle.std.proofs.Common.{◌≡◌, ◌&&◌, ℕ, ◌++◌, Bool, true, false, cond, List, [], ◌∷◌, arith, codes, Option, Some, None, IfSome, Ok, Err, Result, IfOk, All}
use Rattle.std.specs.Result.{result_ok}
use Rattle.mt_values.specs.declared.schema.Schema.{Schema}
use Rattle.mt_values.specs.declared.statement.Cause.{Cause}
use Rattle.mt_values.specs.declared.statement.Statement.{Statement}
use Rattle.mt_values.specs.declared.statement.Statement.TheVariants as statement
use Rattle.mt_values.specs.Grammar.{same_bytes}
use Rattle.mt_values.specs.Script.{statements_of}
use Rattle.root_store.specs.mt_model.declared.refusal.Refusal.{Refusal}
use Rattle.root_store.specs.mt_model.History.{IsTableSchema}
use Rattle.root_store.specs.mt_model.Reply.{schema_of_text}
use Rattle.root_store.specs.mt_model.Written.{IsWritten}
use Rattle.root_store.proofs.MtModelKeys.{statements_are}
use Rattle.root_store.proofs.MtModelTables.{schema_is}
use Rattle.root_store.specs.Entries.{schema_of_statement, schema_of_items, schema_of_entry}

ok_is : (r : Result Schema Refusal) (schema : Schema) → result_ok r ≡ Some schema → r ≡ Ok schema
ok_is (Ok x) schema is = cc
ok_is (Err why) schema is = absurd cc

by_statement : (table text : List ℕ) (schema : Schema) (s : Statement) → schema_of_statement table text s ≡ Some schema → IsWritten (Ok s) → IsTableSchema schema
by_statement table text schema (statement.Insert i) is written = absurd cc
by_statement table text schema (statement.Select i) is written = absurd cc
by_statement table text schema (statement.Explain i) is written = absurd cc
by_statement table text schema (statement.Optimize o) is written = absurd cc
by_statement table text schema (statement.Create c) is written = by (same_bytes c.table table && same_bytes c.text text) is
  where
    by : (b : Bool) → cond b (result_ok (schema_of_text c)) None ≡ Some schema → IsTableSchema schema
    by true found = schema_is c schema (ok_is (schema_of_text c) schema found) written.keys
    by false none = absurd cc

by_items : (table text : List ℕ) (schema : Schema) (items : List (Result Statement Cause)) → schema_of_items table text items ≡ Some schema → All IsWritten items → IsTableSchema schema
by_items table text schema [] is written = absurd cc
by_items table text schema (Err why ∷ items) is written = absurd cc
by_items table text schema (Ok s ∷ item ∷ items) is written = absurd cc
by_items table text schema (Ok s ∷ []) is written = by_statement table text schema s is (written 0 (Ok s) (omega arith))

pub created : (table text : List ℕ) (schema : Schema) → schema_of_entry table text ≡ Some schema → IsTableSchema schema
created table text schema is = by_items table text schema (statements_of (text ++ codes ";")) is (statements_are (text ++ codes ";"))

pub created_found : (table text : List ℕ) (found : Option Schema) → found ≡ schema_of_entry table text → IfSome found IsTableSchema
created_found table text None is = tt
created_found table text (Some schema) is = created table text schema (let e : schema_of_entry table text ≡ Some schema = cc in e)

pub created_told : {E : Type 0} (r : Result (Option Schema) E) (table text : List ℕ) → IfOk r (λ found. found ≡ schema_of_entry table text) → IfOk r (λ found. IfSome found IsTableSchema)
created_told (Ok found) table text is = created_found table text found is
created_told (Err e) table text is = tt
