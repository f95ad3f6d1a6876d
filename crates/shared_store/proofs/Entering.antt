-- A block that may be added by what a session knows may be added to the store of its turn.
use Rattle.std.proofs.Common.{◌≡◌, ℕ, List, Option, Some, IsSome, refl, sym, ap, ◌∙◌, subst}
use Rattle.mt_values.specs.declared.schema.Schema.{Schema}
use Rattle.mt_values.specs.Grid.{Grid}
use Rattle.history_seat.specs.Views.{Begins}
use Rattle.root_commits.specs.mt_model.History.{History, IsInsertInto}
use Rattle.root_commits.specs.part_writer.declared.loaded.Loaded.{Loaded}
use Rattle.root_commits.specs.stage_dir.Stages.{Filled}
use Rattle.root_commits.specs.root_store.declared.store.CoreStore.{CoreStore}
use Rattle.root_commits.specs.root_store.declared.store.Table.{Table}
use Rattle.root_commits.specs.root_store.Stores.{table_at}
use Rattle.root_commits.specs.Commits.{IsSealedOf, insert_into, insert_of_block, partition_of_block}
use Rattle.root_commits.proofs.Updated.{one_some}
use Rattle.shared_store.specs.Handed.{MayEnter, insert_there, partition_by}
use Rattle.shared_store.specs.Sharing.{Fits}
use Rattle.shared_store.specs.Stood.{Premise, is_told}
use Rattle.shared_store.proofs.Schemas.{table_of, there_begins}

module _ {F : Type 0} (given : Premise → Type 0) (before : History) (tables : List ℕ → Option Schema) (front list : History) (table : List ℕ) (block : Grid) (sealed : Filled) (loaded : Loaded)
    (may : MayEnter given tables front table block sealed loaded) (b : Begins front list) (store : CoreStore F) (fits : Fits before tables list store) where
  pub kept_there : (t : Table) × (table_at store table ≡ Some t) × (t.schema ≡ may.schema)
  kept_there = table_of store table may.schema (fits.schemas table ∙ there_begins tables front list table may.schema b may.there)

  pub is_there : IsSome (table_at store table)
  is_there = subst (λ (o : Option Table). IsSome o) (sym kept_there.1) refl

  module _ (t : Table) (at : table_at store table ≡ Some t) where
    schema_is : t.schema ≡ may.schema
    schema_is = ap (λ (x : Table). x.schema) (one_some (table_at store table) t kept_there.0 at kept_there.1) ∙ kept_there.2

    pub rows_there : IsInsertInto t.schema (insert_into table (partition_of_block t.schema block) block)
    rows_there = subst (λ (s : Schema). IsInsertInto s (insert_into table (partition_of_block s block) block)) (sym schema_is) may.rows

    pub sealed_there : given is_told → IsSealedOf t.schema block sealed.files loaded
    sealed_there told = subst (λ (s : Schema). IsSealedOf s block sealed.files loaded) (sym schema_is) (may.sealed_is told)

    -- the command is the one that the session names
    pub insert_same : insert_there tables front table block ≡ insert_of_block table (partition_of_block t.schema block) block
    insert_same = ap (λ (o : Option Schema). insert_of_block table (partition_by o block) block) (may.there ∙ ap (λ (s : Schema). Some s) (sym schema_is))
