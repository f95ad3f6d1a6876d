-- What a merge makes of a root, and what a crash leaves after it.
use Rattle.std.proofs.Common.{◌≡◌, ◌≤◌, List, ℕ, Option, Some, sym, ap, ◌∙◌, subst}
use Rattle.std.specs.List.{All}
use Rattle.std.specs.Option.{ForSome, option_map}
use Rattle.mt_values.specs.RootNames.{part_name}
use Rattle.mt_outside.specs.Files.{Files}
use Rattle.root_store.specs.mt_model.History.{History, schema_of}
use Rattle.root_store.specs.part_name.declared.part.PartName.{PartName}
use Rattle.root_store.specs.part_name.PartNames.{part_text}
use Rattle.root_store.specs.part_set.declared.root_name.RootName.{RootName}
use Rattle.root_store.specs.part_set.Parts.{IsInBlockOrder, kept_in}
use Rattle.root_store.specs.part_set.Runs.{EndsInOrder, IsRun}
use Rattle.root_store.specs.part_set.Sets.{parts_of}
use Rattle.root_store.specs.part_set.Visible.{HasPart}
use Rattle.root_store.specs.durable_commit.stage_dir.Stages.{AreSealed}
use Rattle.root_store.specs.declared.store.CoreStore.{CoreStore}
use Rattle.root_store.specs.declared.store.Table.{Table}
use Rattle.root_store.specs.Shown.{part_called}
use Rattle.root_store.specs.Stores.{CoreStands, table_at}
use Rattle.root_store.proofs.Readings.{one_reading}
use Rattle.root_commits.specs.Merges.{EntersMerge, Merging, SealsMerge, name_of_merge, source_names, sources_of}
use Rattle.root_commits.specs.Publications.{publication_of_merge}
use Rattle.root_commits.proofs.CrashCommits.{folder_left}
use Rattle.root_commits.proofs.CrashImages.{Shows}
use Rattle.root_commits.proofs.Hiding.{MayReplace}
use Rattle.root_commits.proofs.MergedNames.{source_there, unmutated_of}
use Rattle.root_commits.proofs.MergedRoots.{stands_with_merge}
use Rattle.root_commits.proofs.MergedShown.{kept_visible, may_replace, merged_free, merged_word, shown_merged}
use Rattle.root_commits.proofs.MergedStores.{made, made_stands}
use Rattle.root_commits.proofs.TurnCrashes.{Fits}

-- ---- what it makes of a root

module _ {F : Type 0} (store : CoreStore F) (m : Merging) (ordered : IsInBlockOrder (kept_in m.partition (parts_of store.set m.table))) (fit : All EndsInOrder (parts_of store.set m.table))
    (name : PartName) (name_is : name_of_merge (sources_of store m) ≡ Some name) (low : name.level ≤ 4294967295) where
  abbrev text : List ℕ
  text = part_name m.table (part_text name)

  -- files that a root which stands for the history may get under the name: it stands for it then as well
  pub publishable : (files_of : F → Option Files) (h : History) (t : Table) → table_at store m.table ≡ Some t → CoreStands files_of h store → IsRun m.run (kept_in m.partition (parts_of store.set m.table)) → SealsMerge t.schema h (source_names store m) m
      → ForSome m.files AreSealed → Fits store (publication_of_merge m name) h
  publishable files_of h t at s run is sealed =
      let held = made files_of h store m t at s run ordered fit is name name_is in
      let known : schema_of m.table h ≡ Some t.schema = sym (s.tables m.table) ∙ ap (option_map (λ (x : Table). x.schema)) at in
      record {
        files = held.files;
        sealed_is = held.sealed_are;
        grows = λ old left rise stands shown become.
            let same = one_reading old shown.read stands.read shown.are stands.are in
            let word = merged_word store m ordered fit name name_is old shown low in
            let may : MayReplace stands.read (part_called m.table name) = subst (λ (read : List RootName). MayReplace read (part_called m.table name)) same (may_replace store m ordered fit name name_is old shown) in
            let plain = unmutated_of (sources_of store m) (λ k has.
            stands.unmutated (part_called m.table k.name) (subst (λ (read : List RootName). HasPart read (part_called m.table k.name)) same
            (kept_visible store m ordered fit name name_is old shown k (source_there (parts_of store.set m.table) m.partition m.run ordered fit name name_is k has)).here)) name name_is in
            stands_with_merge old h stands (part_called m.table name) held.rows t.schema left may word plain (made_stands files_of h store m t at s run ordered fit is name name_is) known
            (folder_left held.files left (sealed held.files held.sealed_are) become t.schema held.rows held.holds) (merged_free store m ordered fit name name_is old shown word);
      }

  pub shows_by_merge : (files_of : F → Option Files) (h : History) (files : Files) (now : CoreStore F) (a : EntersMerge files_of m name store now) → Shows store text files h now
  shows_by_merge files_of h files now a = λ old left rise stands shown become.
      shown_merged store m ordered fit name name_is old shown (merged_word store m ordered fit name name_is old shown low) left now a
