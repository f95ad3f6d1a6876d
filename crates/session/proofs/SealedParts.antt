-- What is sealed of a block for a table.
use Rattle.std.proofs.Common.{◌≡◌, ℕ, List, All, ap, ◌∙◌, subst, Option, Some}
use Rattle.sha2.specs.Sha256.{sha256}
use Rattle.mt_values.specs.declared.schema.Schema.{Schema}
use Rattle.mt_values.specs.declared.value.ColType.{ColType}
use Rattle.mt_values.specs.Grid.{AreRowsOf, Grid, IsOrderBy, picked}
use Rattle.mt_values.specs.Manifests.{manifest_bytes}
use Rattle.mt_values.specs.Tables.{sorting_columns}
use Rattle.mt_values.specs.Values.{FitsType, Row}
use Rattle.mt_values.proofs.Grids.{AreRowsOf-picked}
use Rattle.mt_outside.specs.Files.{Files}
use Rattle.replies.specs.mt_model.History.{column_types}
use Rattle.merge_workers.specs.shared_store.digest_file.Spellings.{IsManifestOf}
use Rattle.merge_workers.proofs.PartReaderHolding.{sealed_folder}
use Rattle.merge_workers.specs.shared_store.part_writer.declared.loaded.Loaded.{Loaded}
use Rattle.merge_workers.specs.shared_store.part_writer.PartFiles.{all_synced, files_of_part, loaded_of}
use Rattle.merge_workers.specs.shared_store.root_commits.Commits.{IsSealedOf, part_rows}
use Rattle.session.proofs.Selecting.{ordered_is_sorted}

module _ (schema : Schema) (block : Grid) (order : List ℕ) (types : block.types ≡ column_types schema) (by : IsOrderBy (sorting_columns schema) block.rows order) (typed : AreRowsOf block.types block.rows) where
  abbrev chosen : List Row
  chosen = picked block.rows order

  sorted_are : chosen ≡ part_rows schema block
  sorted_are = ordered_is_sorted (sorting_columns schema) block.rows order by

  -- the files of the rows in the order of the key are those of the block's part
  pub sealed_of : (sealed : Option Files) (loaded : Loaded) → sealed ≡ Some (all_synced (files_of_part schema chosen)) → loaded ≡ loaded_of schema chosen
      → All (λ (row : Row). All FitsType row) chosen → IsManifestOf (manifest_bytes sha256 loaded.manifest) loaded.manifest → IsSealedOf schema block sealed loaded
  sealed_of sealed loaded is kept fit readable =
      let same : loaded ≡ loaded_of schema (part_rows schema block) = kept ∙ ap (loaded_of schema) sorted_are in
      let typed_rows : AreRowsOf (column_types schema) (part_rows schema block) =
      subst (AreRowsOf (column_types schema)) sorted_are (subst (λ (ts : List ColType). AreRowsOf ts chosen) types (AreRowsOf-picked block.types (sorting_columns schema) block.rows order by typed)) in
      record {
        files = all_synced (files_of_part schema (part_rows schema block));
        sealed_are = is ∙ ap (λ (rows : List Row). Some (all_synced (files_of_part schema rows))) sorted_are;
        holds = sealed_folder schema (part_rows schema block) typed_rows (subst (All (λ (row : Row). All FitsType row)) sorted_are fit)
            (subst (λ (l : Loaded). IsManifestOf (manifest_bytes sha256 l.manifest) l.manifest) same readable);
        loaded_is = same;
      }
