-- What the store tells of the tables of the history that it stands for, and of their rows.
use Rattle.std.proofs.Common.{◌≡◌, ℕ, List, [], ◌∷◌, ◌++◌, refl, sym, ap, ◌∙◌, subst, Option, Some}
use Rattle.std.specs.Option.{option_map}
use Rattle.mt_values.specs.declared.mutation.Mutation.{Mutation}
use Rattle.mt_values.specs.declared.schema.Schema.{Schema}
use Rattle.mt_values.specs.Values.{Row}
use Rattle.mt_outside.specs.Files.{Files}
use Rattle.replies.specs.mt_model.History.{History, schema_of}
use Rattle.replies.specs.mt_model.Live.{live}
use Rattle.replies.specs.mt_model.Partial.{Partly}
use Rattle.merge_workers.specs.shared_store.part_reader.declared.reading.Part.{Part}
use Rattle.merge_workers.specs.shared_store.part_set.declared.kept.Kept.{Kept}
use Rattle.merge_workers.specs.shared_store.part_set.Sets.{parts_of}
use Rattle.final_fold.specs.part_history.Parts.{AreInBlockOrder, TableStands, rows_of_parts, rows_seen_of}
use Rattle.final_fold.proofs.PartHistoryJoined.{parts_joined}
use Rattle.merge_workers.specs.shared_store.root_store.declared.store.CoreStore.{CoreStore}
use Rattle.merge_workers.specs.shared_store.root_store.declared.store.Table.{Table}
use Rattle.merge_workers.specs.shared_store.root_store.Stores.{CoreStands, core_parts, table_at}
use Rattle.merge_workers.specs.shared_store.part_set.declared.kept.Snap.{Snap}
use Rattle.final_fold.specs.row_merge.MergedParts.{PartsHold}
use Rattle.final_fold.specs.Scans.{joined_rows}
use Rattle.merge_workers.specs.shared_store.Engines.{IsSnapOf}

rows_joined : {F : Type 0} (files_of : F → Option Files) (schema : Schema) (table : List ℕ) (kept : List (Kept (Part F))) (rows : List (List Row)) → PartsHold files_of schema kept rows
    → rows_of_parts (core_parts table kept rows) ≡ joined_rows rows
rows_joined files_of schema table [] [] h = refl
rows_joined files_of schema table [] (r ∷ rows) h = absurd h
rows_joined files_of schema table (k ∷ kept) [] h = absurd h
rows_joined files_of schema table (k ∷ kept) (r ∷ rows) h = ap (λ (rs : List Row). r ++ rs) (rows_joined files_of schema table kept rows h.1)

-- a table's parts hold rows with which they stand for its commands, and which merges may have left of its live rows
pub record Held {F : Type 0} (files_of : F → Option Files) (h : History) (table : List ℕ) (schema : Schema) (parts : List (Kept (Part F))) : Type 0 where
  pub rows : List (List Row)
  pub hold : PartsHold files_of schema parts rows
  pub stand : TableStands table (core_parts table parts rows) h
  pub order : AreInBlockOrder (core_parts table parts rows)
  pub partly : Partly schema (live table schema h) (joined_rows rows)

module _ {F : Type 0} (files_of : F → Option Files) (h : History) (store : CoreStore F) (s : CoreStands files_of h store) (table : List ℕ) where
  abbrev schema_at : Option Table → Option Schema
  schema_at found = option_map (λ (t : Table). t.schema) found

  module _ (t : Table) (there : table_at store table ≡ Some t) where
    pub table_schema : schema_of table h ≡ Some t.schema
    table_schema = sym (s.tables table) ∙ ap schema_at there

    pub rows_held : Held files_of h table t.schema (parts_of store.set table)
    rows_held =
        let p = s.parts table t there in
        record {
          rows = p.rows;
          hold = p.hold;
          stand = p.stand;
          order = p.order;
          partly = subst (Partly t.schema (live table t.schema h)) (rows_joined files_of t.schema table (parts_of store.set table) p.rows p.hold)
              (subst (λ (ms : List Mutation). Partly t.schema (live table t.schema h) (rows_seen_of ms (core_parts table (parts_of store.set table) p.rows))) (s.unaltered table)
              (parts_joined h table t.schema s.legal table_schema (core_parts table (parts_of store.set table) p.rows) p.stand p.order));
        }

  -- what a snapshot of the table says of the history
  module _ (snap : Snap (Part F)) (pinned : IsSnapOf store table snap) where
    pub snap_schema : schema_of table h ≡ Some snap.schema
    snap_schema = table_schema pinned.made pinned.there ∙ ap Some (sym pinned.schema)

    pub snap_held : Held files_of h table snap.schema snap.parts.items
    snap_held =
        subst (λ (s : Schema). Held files_of h table s snap.parts.items) (sym pinned.schema)
        (subst (λ (ps : List (Kept (Part F))). Held files_of h table pinned.made.schema ps) (sym pinned.parts) (rows_held pinned.made pinned.there))
