-- One more table.
use Rattle.std.proofs.Common.{◌≡◌, ◌&&◌, ℕ, ◌<◌, ◌≤◌, ◌^◌, Bool, true, false, cond, List, [], ◌∷◌, ◌++◌, length, refl, ap, ap₂, ◌∙◌, arith, Option, Some, None, Ok, is_some, nat_lt, codes, Result, subst}
use Rattle.std.specs.Result.{result_ok}
use Rattle.std.proofs.lemmas.Bool.Decides.{nat_tests}
use Rattle.mt_values.specs.declared.command.Command.{Command}
use Rattle.mt_values.specs.declared.command.Command.TheVariants as command
use Rattle.mt_values.specs.declared.schema.Schema.{Schema}
use Rattle.mt_values.specs.declared.statement.Cause.{Cause}
use Rattle.mt_values.specs.declared.statement.CreateText.{CreateText}
use Rattle.mt_values.specs.declared.statement.Statement.{Statement}
use Rattle.mt_values.specs.declared.statement.Statement.TheVariants as statement
use Rattle.mt_values.specs.Script.{statements_of, statement_and}
use Rattle.merge_workers.proofs.RootStoreEntryReads.{reads_as}
use Rattle.mt_values.proofs.ScriptBounds.{statements_of_step}
use Rattle.replies.specs.mt_model.declared.refusal.Bound.TheVariants as bound
use Rattle.replies.specs.mt_model.declared.refusal.Refusal.TheVariants as refusal
use Rattle.replies.specs.mt_model.Commands.{commands_of, create_commands}
use Rattle.replies.specs.mt_model.History.{History, schema_of, creates}
use Rattle.replies.specs.mt_model.Reply.{schema_of_text, create_turn}
use Rattle.replies.specs.mt_model.Written.{IsCreateText}
use Rattle.replies.proofs.MtModelTables.{itself_same}
use Rattle.merge_workers.specs.shared_store.root_store.Entries.{EntryHolds, schema_of_items, schema_of_entry}
use Rattle.merge_workers.specs.shared_store.root_commits.Commits.{IsSealedEntry}
use Rattle.mt_outside.specs.Files.{Files}
use Rattle.session.specs.Staged.{entry_files}

-- what refuses a CREATE at its turn
module _ (table : List ℕ) (h : History) where
  turn_by : (o : Option Schema) (b : Bool) → schema_of table h ≡ o → nat_lt (creates h) 64 ≡ b
      → create_turn table h ≡ cond (is_some o) (Some (refusal.TableExists table)) (cond b None (Some (refusal.Past bound.Tables)))
  turn_by o b there few =
      ap (λ x. cond (is_some x) (Some (refusal.TableExists table)) (cond (nat_lt (creates h) 64) None (Some (refusal.Past bound.Tables)))) there
      ∙ ap (λ x. cond (is_some o) (Some (refusal.TableExists table)) (cond x None (Some (refusal.Past bound.Tables)))) few

  pub turn_taken : (schema : Schema) → schema_of table h ≡ Some schema → create_turn table h ≡ Some (refusal.TableExists table)
  turn_taken schema there = turn_by (Some schema) (nat_lt (creates h) 64) there refl

  pub turn_full : schema_of table h ≡ None → 64 ≤ creates h → create_turn table h ≡ Some (refusal.Past bound.Tables)
  turn_full none many = let no : nat_lt (creates h) 64 ≡ false = grind (arith, nat_tests) in turn_by None false none no

  pub turn_free : schema_of table h ≡ None → creates h < 64 → create_turn table h ≡ None
  turn_free none few = let yes : nat_lt (creates h) 64 ≡ true = grind (arith, nat_tests) in turn_by None true none yes

-- the entry of a CREATE reads as its table's
module _ (c : CreateText) (schema : Schema) (is : IsCreateText c) (text : schema_of_text c ≡ Ok schema) where
  abbrev Items : Type 0
  Items = List (Result Statement Cause)

  reads : schema_of_entry c.table c.text ≡ Some schema
  reads =
      let alone : statements_of (c.text ++ codes ";") ≡ Ok (statement.Create c) ∷ [] =
      statements_of_step (c.text ++ codes ";") ∙ (ap (statement_and statements_of) is.again ∙ ap (λ (ss : Items). Ok (statement.Create c) ∷ ss) (statements_of_step [])) in
      ap (schema_of_items c.table c.text) alone
      ∙ (ap₂ (λ (a b : Bool). cond (a && b) (result_ok (schema_of_text c)) None) (itself_same c.table) (itself_same c.text) ∙ ap result_ok text)

  pub entry_holds : length c.text < 2 ^ 32 → EntryHolds c.table schema (entry_files c.text)
  entry_holds few = record { text = c.text; few = few; bytes = refl; reads = reads_as c.table c.text schema reads }

-- the command that a CREATE gives
module _ (text : CreateText) (schema : Schema) (says : schema_of_text text ≡ Ok schema) where
  abbrev pub created : Command
  created = command.Create (record { table = text.table; schema = schema })

  pub create_gives : (h : History) → commands_of h (statement.Create text) ≡ Ok (created ∷ [])
  create_gives h = ap (create_commands text.table) says

-- what was sealed of its text is its entry
pub sealed_entry : (text : CreateText) (schema : Schema) → schema_of_text text ≡ Ok schema → IsCreateText text → (read : List ℕ) → read ≡ text.text → length read < 2 ^ 32 → (sealed : Option Files) → sealed ≡ Some (entry_files read)
    → IsSealedEntry (record { table = text.table; schema = schema }) sealed
sealed_entry text schema says is read same few sealed files = record {
  files = entry_files text.text;
  sealed_are = files ∙ ap (λ (t : List ℕ). Some (entry_files t)) same;
  holds = entry_holds text schema is says (subst (λ (t : List ℕ). length t < 2 ^ 32) same few);
}
