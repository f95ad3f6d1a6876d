-- What the store tells of the history that it stands for.
use Rattle.std.proofs.Common.{◌≡◌, ◌≤◌, ℕ, suc, Bool, true, false, cond, List, [], ◌∷◌, length, refl, sym, ap, ◌∙◌, subst, Option, Some, None}
use Rattle.std.specs.Option.{option_map}
use Rattle.mt_base.specs.declared.partition.Partition.{Partition}
use Rattle.mt_values.specs.declared.schema.Schema.{Schema}
use Rattle.mt_values.specs.Tables.{same_partition}
use Rattle.mt_values.specs.Values.{Row}
use Rattle.mt_outside.specs.Files.{Files}
use Rattle.replies.specs.mt_model.History.{History, creates, inserts, schema_of}
use Rattle.replies.specs.mt_model.Numbers.{last_number}
use Rattle.merge_workers.specs.shared_store.part_reader.declared.reading.Part.{Part}
use Rattle.merge_workers.specs.shared_store.part_set.declared.kept.Kept.{Kept}
use Rattle.merge_workers.specs.shared_store.part_set.Parts.{kept_in}
use Rattle.merge_workers.specs.shared_store.part_set.Sets.{parts_of}
use Rattle.final_fold.specs.part_history.Parts.{parts_in}
use Rattle.final_fold.proofs.PartHistoryCounted.{parts_at_most}
use Rattle.merge_workers.specs.shared_store.root_store.declared.store.CoreStore.{CoreStore}
use Rattle.merge_workers.specs.shared_store.root_store.declared.store.Table.{Table}
use Rattle.merge_workers.specs.shared_store.root_store.Stores.{CoreStands, core_part, core_parts, table_at}
use Rattle.final_fold.specs.row_merge.MergedParts.{PartsHold}

-- as many parts of a partition are kept as stand
as_many : {F : Type 0} (files_of : F → Option Files) (schema : Schema) (table : List ℕ) (partition : Partition) (kept : List (Kept (Part F))) (rows : List (List Row)) → PartsHold files_of schema kept rows
    → length (parts_in partition (core_parts table kept rows)) ≡ length (kept_in partition kept)
as_many files_of schema table partition [] [] h = refl
as_many files_of schema table partition [] (r ∷ rows) h = absurd h
as_many files_of schema table partition (k ∷ kept) [] h = absurd h
as_many files_of schema table partition (k ∷ kept) (r ∷ rows) h = by (same_partition k.name.partition partition) (as_many files_of schema table partition kept rows h.1)
  where
    by : (b : Bool) → length (parts_in partition (core_parts table kept rows)) ≡ length (kept_in partition kept)
        → length (cond b (core_part table k r ∷ parts_in partition (core_parts table kept rows)) (parts_in partition (core_parts table kept rows))) ≡ length (cond b (k ∷ kept_in partition kept) (kept_in partition kept))
    by true more = ap suc more
    by false more = more

module _ {F : Type 0} (files_of : F → Option Files) (h : History) (store : CoreStore F) (s : CoreStands files_of h store) (table : List ℕ) where
  abbrev schema_at : Option Table → Option Schema
  schema_at found = option_map (λ (t : Table). t.schema) found

  -- a name that no table of the store has is no table's
  pub no_table : table_at store table ≡ None → schema_of table h ≡ None
  no_table none = sym (s.tables table) ∙ ap schema_at none

  -- as many tables were made as the store has
  pub tables_made : creates h ≡ length store.tables.entries
  tables_made = sym s.count

  module _ (t : Table) (there : table_at store table ≡ Some t) where
    pub table_schema : schema_of table h ≡ Some t.schema
    table_schema = sym (s.tables table) ∙ ap schema_at there

    -- the last number that was drawn is the history's
    pub drawn_is : last_number table h ≡ t.drawn
    drawn_is = sym (s.drawn table t there)

    -- a partition has at most a part for each INSERT
    pub parts_made : (partition : Partition) → length (kept_in partition (parts_of store.set table)) ≤ inserts table partition h
    parts_made partition =
        let p = s.parts table t there in
        let most = parts_at_most h table (core_parts table (parts_of store.set table) p.rows) partition p.stand in
        subst (λ (n : ℕ). n ≤ inserts table partition h) (as_many files_of t.schema table partition (parts_of store.set table) p.rows p.hold) most
