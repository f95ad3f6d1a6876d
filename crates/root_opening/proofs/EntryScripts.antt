-- The one statement of a script, and the schema that an entry gives a table.
use Rattle.std.proofs.Common.{◌≡◌, ℕ, ◌-◌, true, false, List, ◌∷◌, length, take, drop, refl, sym, ap, ◌∙◌, arith, length-drop, Option, Some, None, IfSome, Ok, Err, Result, IfOk, is_some}
use Rattle.std.proofs.lemmas.List.{take_all}
use Rattle.mt_values.specs.declared.schema.Schema.{Schema}
use Rattle.mt_values.specs.declared.statement.Cause.{Cause}
use Rattle.mt_values.specs.declared.statement.Statement.{Statement}
use Rattle.mt_values.specs.Script.{Step, next_statement, statement_and, statements_of}
use Rattle.mt_values.proofs.ScriptBounds.{statements_of_step}
use Rattle.root_store.specs.digest_file.Spellings.{IsEntryOf}
use Rattle.root_store.specs.Entries.{IsEntryWith, schema_of_statement, schema_of_items, schema_of_entry}
use Rattle.root_store.proofs.EntryReads.{reads_as}

-- a script without a statement gives a table no schema
pub none_read : (table text script : List ℕ) → next_statement script ≡ None → schema_of_items table text (statements_of script) ≡ None
none_read table text script none = ap (schema_of_items table text) (statements_of_step script ∙ ap (statement_and statements_of) none)

-- nor does one whose first text is refused
pub refused_read : (table text script rest : List ℕ) (why : Cause) → next_statement script ≡ Some (Err why, rest) → schema_of_items table text (statements_of script) ≡ None
refused_read table text script rest why next = ap (schema_of_items table text) (statements_of_step script ∙ ap (statement_and statements_of) next)

-- what a script gives by its first statement and what comes after it
first_read : (table text script rest : List ℕ) (s : Statement) → next_statement script ≡ Some (Ok s, rest) → schema_of_items table text (statements_of script) ≡ schema_of_items table text (Ok s ∷ statement_and statements_of (next_statement rest))
first_read table text script rest s next =
    ap (schema_of_items table text) (statements_of_step script ∙ (ap (statement_and statements_of) next ∙ ap (λ (items : List (Result Statement Cause)). Ok s ∷ items) (statements_of_step rest)))

pub behind_read : (table text : List ℕ) (s : Statement) (o : Option Step) → is_some o ≡ true → schema_of_items table text (Ok s ∷ statement_and statements_of o) ≡ None
behind_read table text s None more = absurd cc
behind_read table text s (Some found) more = refl

pub alone_read : (table text : List ℕ) (s : Statement) (o : Option Step) → is_some o ≡ false → schema_of_items table text (Ok s ∷ statement_and statements_of o) ≡ schema_of_statement table text s
alone_read table text s None none = refl
alone_read table text s (Some found) none = absurd cc

-- the bytes of a script from a place on, as a slice has them
sliced : (script : List ℕ) (at : ℕ) → take (length script - at) (drop at script) ≡ drop at script
sliced script at = take_all (length script - at) (drop at script) (omega (arith, length-drop at script))

-- the schema that is found is that of the entry
pub entry_found : (table bytes text : List ℕ) → IsEntryOf bytes text → (found : Option Schema) → found ≡ schema_of_entry table text → IfSome found (λ schema. IsEntryWith table schema bytes)
entry_found table bytes text entry None is = tt
entry_found table bytes text entry (Some schema) is = record { text = text; few = entry.few; bytes = entry.spelled; reads = reads_as table text schema (sym is) }

-- and the entry's schema is found
pub entry_read : (table text other : List ℕ) (schema : Schema) → text ≡ other → schema_of_entry table other ≡ Some schema → (found : Option Schema) → found ≡ schema_of_entry table text → found ≡ Some schema
entry_read table text other schema same reads found is = is ∙ (ap (schema_of_entry table) same ∙ reads)

-- what the last call found, by another word for it
pub read_on : {F : Type 0} (r : Result (Option Schema) F) (x y : Option Schema) → IfOk r (λ found. found ≡ x) → y ≡ x → IfOk r (λ found. found ≡ y)
read_on (Ok found) x y is same = is ∙ sym same
read_on (Err f) x y is same = tt

-- what a script gives by its first statement is what this gives with what comes after it
pub read_alone : {F : Type 0} (r : Result (Option Schema) F) (table text script : List ℕ) (used : ℕ) (s : Statement) → next_statement script ≡ Some (Ok s, drop used script)
    → IfOk r (λ found. found ≡ schema_of_items table text (Ok s ∷ statement_and statements_of (next_statement (take (length script - used) (drop used script))))) → IfOk r (λ found. found ≡ schema_of_items table text (statements_of script))
read_alone r table text script used s next is =
    read_on r _ _ is (first_read table text script (drop used script) s next ∙ ap (λ (t : List ℕ). schema_of_items table text (Ok s ∷ statement_and statements_of (next_statement t))) (sym (sliced script used)))

pub told_entry : {F : Type 0} (r : Result (Option Schema) F) (table bytes text : List ℕ) → IsEntryOf bytes text → IfOk r (λ found. found ≡ schema_of_entry table text) → IfOk r (λ found. IfSome found (λ schema. IsEntryWith table schema bytes))
told_entry (Ok found) table bytes text entry is = entry_found table bytes text entry found is
told_entry (Err f) table bytes text entry is = tt

pub told_only : {F : Type 0} (r : Result (Option Schema) F) (table text other : List ℕ) (schema : Schema) → text ≡ other → schema_of_entry table other ≡ Some schema → IfOk r (λ found. found ≡ schema_of_entry table text) → IfOk r (λ found. found ≡ Some schema)
told_only (Ok found) table text other schema same reads is = entry_read table text other schema same reads found is
told_only (Err f) table text other schema same reads is = tt
