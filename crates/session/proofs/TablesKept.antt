-- What an INSERT of a session knows of its table.
use Rattle.std.proofs.Common.{◌≡◌, ◌∙◌, ◌++◌, ℕ, List, Some, None, sym, ap, subst, append_assoc}
use Rattle.mt_values.specs.declared.schema.Schema.{Schema}
use Rattle.replies.specs.mt_model.History.{History, schema_of}
use Rattle.merge_workers.specs.shared_store.history_seat.Views.{Begins}
use Rattle.merge_workers.specs.shared_store.Handed.{GivesSchema}
use Rattle.merge_workers.specs.shared_store.Sharing.{AtOpening, schema_there}
use Rattle.merge_workers.specs.shared_store.Stood.{Premise, is_listed, is_told}
use Rattle.merge_workers.proofs.MtModelHistories.{schema_kept}
use Rattle.merge_workers.proofs.SharedStoreSchemas.{there_begins}

module _ (given : Premise → Type 0) (before : History) (o : AtOpening) (table : List ℕ) where
  -- the lists have no such table, and neither has the whole history
  pub none_given : (list : History) → GivesSchema given before o.tables list table None → given is_told → given is_listed → schema_of table (before ++ list) ≡ None
  none_given list gives told known = gives.2 told known ∙ sym gives.0

  module _ (first list : History) (schema : Schema) (gives : GivesSchema given before o.tables first table (Some schema)) (b : Begins first list) where
    -- a table keeps its schema
    pub there_then : schema_there o.tables list table ≡ Some schema
    there_then = there_begins o.tables first list table schema b (sym gives.0)

    pub whole_then : given is_told → given is_listed → schema_of table (before ++ list) ≡ Some schema
    whole_then told known =
        subst (λ (h : History). schema_of table h ≡ Some schema) (append_assoc before first b.0 ∙ ap (λ (l : History). before ++ l) b.1)
        (schema_kept table (before ++ first) b.0 schema (gives.2 told known ∙ sym gives.0))
