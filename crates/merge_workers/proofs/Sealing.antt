-- What was sealed for a work may be put: it is a merge of its sources by the history that its note knows.
use Rattle.std.proofs.Common.{◌≡◌, ℕ, List, [], ◌∷◌, ◌++◌, All, Option, Some, map, sym, subst, append-nil}
use Rattle.std.specs.List.{AllZip}
use Rattle.std.proofs.lemmas.List.Elements.{All-cons, All-head, All-nil, All-tail}
use Rattle.mt_base.specs.declared.partition.Partition.{Partition}
use Rattle.mt_values.specs.declared.schema.Schema.{Schema}
use Rattle.mt_values.specs.Values.{Row}
use Rattle.mt_outside.specs.Files.{Files}
use Rattle.row_merge.specs.Merged.{ArePartRows}
use Rattle.row_merge.proofs.HistoryRows.{are_part_rows}
use Rattle.row_merge.proofs.PartHistoryOwnRows.{part_own}
use Rattle.shared_store.specs.part_name.declared.part.PartName.{PartName}
use Rattle.shared_store.specs.part_set.declared.kept.Kept.{Kept}
use Rattle.shared_store.specs.part_writer.declared.loaded.Loaded.{Loaded}
use Rattle.shared_store.specs.stage_dir.Stages.{Filled}
use Rattle.shared_store.specs.root_commits.mt_model.History.{History, IsLegal, schema_of}
use Rattle.shared_store.specs.root_commits.part_history.declared.part.CorePart.{CorePart}
use Rattle.shared_store.specs.root_commits.part_history.Parts.{PartStands}
use Rattle.shared_store.specs.declared.work.Work.{Work}
use Rattle.shared_store.specs.Handed.{IsHanded, MayPut}
use Rattle.shared_store.specs.Sharing.{AtOpening}
use Rattle.shared_store.specs.Stood.{Premise, is_told}
use Rattle.merge_workers.specs.Seals.{SealsWork}

module _ {P : Type 0} (h : History) (legal : IsLegal h) (table : List ℕ) (schema : Schema) (there : schema_of table h ≡ Some schema) (partition : Partition) where
  -- rows that stand for a legal history under names of a partition are rows as a part of it has them
  pub rows_by_names : (ks : List (Kept P)) (rows : List (List Row)) → All (λ (k : Kept P). k.name.partition ≡ partition) ks
      → AllZip (λ (name : PartName) (r : List Row). PartStands h (record { table = table; name = name; rows = r })) (map (λ (k : Kept P). k.name) ks) rows → All (ArePartRows schema partition) rows
  rows_by_names [] [] own reach = All-nil (ArePartRows schema partition)
  rows_by_names [] (r ∷ rows) own reach = absurd reach
  rows_by_names (k ∷ ks) [] own reach = absurd reach
  rows_by_names (k ∷ ks) (r ∷ rows) own reach =
      let Own = λ (x : Kept P). x.name.partition ≡ partition in
      let part : CorePart = record { table = table; name = k.name; rows = r } in
      let first : ArePartRows schema k.name.partition r = are_part_rows h legal schema part there reach.0 (part_own h legal part reach.0 schema there) in
      All-cons (ArePartRows schema partition) r rows (subst (λ (p : Partition). ArePartRows schema p r) (All-head Own k ks own) first) (rows_by_names ks rows (All-tail Own k ks own) reach.1)

module _ {F : Type 0} (files_of : F → Option Files) (given : Premise → Type 0) (before : History) (o : AtOpening) (list : History) (work : Work F) (facts : IsHanded files_of given before o list work) (sealed : Filled) (loaded : Loaded) where
  pub may_put : (given is_told → SealsWork files_of work sealed.files loaded) → MayPut given before list work sealed loaded
  may_put seals = record {
    rows = λ told. let held = (seals told).holds in record { files = held.files; sealed_are = held.sealed_are; rows = held.rows; holds = held.holds; loaded_is = held.loaded_is };
    merges = λ told known.
        let r = facts.reach told known in
        let rows = rows_by_names (before ++ list) r.legal work.table work.schema r.there work.partition work.sources.items r.inputs facts.own r.reach in
        let one = (seals told).merged r.inputs r.hold rows in
        record {
          front = before ++ list;
          more = [];
          grown = sym (append-nil (before ++ list));
          inputs = r.inputs;
          reach = r.reach;
          holds = record { files = one.files; sealed_are = one.sealed_are; rows = one.rows; rising = one.merged.rows.rising; merges = one.merged.merges; holds = one.holds; loaded_is = one.loaded_is };
        };
  }
