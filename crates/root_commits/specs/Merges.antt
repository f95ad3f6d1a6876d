-- What is merged under which name, what is sealed for it, and what it leaves (docs/architecture.md, "Commits").
use Rattle.std.specs.Prelude.{◌≡◌, ◌≢◌, ℕ, ◌++◌, false, List, Option, None, Some, if◌then◌else◌, map, nat_lt}
use Rattle.std.specs.List.{AllZip, flat_map}
use Rattle.std.specs.List.Sorted.{IsSorted}
use Rattle.std.specs.Option.{ForSome}
use Rattle.mt_base.specs.declared.partition.Partition.{Partition}
use Rattle.mt_base.specs.Limits.{level_limit}
use Rattle.mt_values.specs.Annals as keeper
use Rattle.mt_values.specs.declared.schema.Schema.{Schema}
use Rattle.mt_values.specs.Tables.{sorting_cmp}
use Rattle.mt_values.specs.Values.{Row}
use Rattle.mt_outside.specs.Files.{Files}
use Rattle.root_store.specs.mt_model.History.{History}
use Rattle.root_store.specs.mt_model.Partial.{MergesAll}
use Rattle.root_store.specs.part_history.Parts.{PartStands}
use Rattle.root_store.specs.part_name.declared.part.PartName.{PartName}
use Rattle.root_store.specs.part_name.Merged.{merged_of}
use Rattle.root_store.specs.part_reader.declared.reading.Part.{Part}
use Rattle.root_store.specs.part_reader.Parts.{PartHolds}
use Rattle.root_store.specs.part_writer.declared.loaded.Loaded.{Loaded}
use Rattle.root_store.specs.part_writer.PartFiles.{loaded_of}
use Rattle.root_store.specs.part_set.declared.kept.Kept.{Kept}
use Rattle.root_store.specs.part_set.declared.run.Run.{Run}
use Rattle.root_store.specs.part_set.Parts.{IsInBlockOrder, kept_in}
use Rattle.root_store.specs.part_set.Runs.{IsSwapped, parts_of_run}
use Rattle.root_store.specs.part_set.Sets.{parts_of}
use Rattle.root_store.specs.durable_commit.stage_dir.Stages.{Filled}
use Rattle.root_store.specs.declared.store.CoreStore.{CoreStore}
use Rattle.root_store.specs.Roots.{FolderHolds}
use Rattle.root_store.specs.Crashes.{entries_of}
use Rattle.root_store.specs.Stores.{CoreStands}

-- a merge: a run of the parts of a table's partition, and what was sealed for them: its files, how many calls of its stage had failed, and
-- what is kept of it
pub record Merging : Type 0 where
  pub table : List ℕ
  pub partition : Partition
  pub run : Run
  pub files : Option Files
  pub failed : ℕ
  pub loaded : Loaded

abbrev pub merging : List ℕ → Partition → Run → Filled → Loaded → Merging
merging table partition run sealed loaded = record {
  table = table;
  partition = partition;
  run = run;
  files = sealed.files;
  failed = sealed.failed;
  loaded = loaded;
}

-- the parts that are merged
abbrev pub sources_of : {F : Type 0} → CoreStore F → Merging → List (Kept (Part F))
sources_of store m = parts_of_run m.run (kept_in m.partition (parts_of store.set m.table))

-- the name of the part that comes of parts; of none no name
abbrev pub name_of_merge : {P : Type 0} → List (Kept P) → Option PartName
name_of_merge {P} parts = merged_of (map (λ (k : Kept P). k.name) parts)

-- the name, where its level is none that is greater than may be
abbrev pub within_levels : Option PartName → Option PartName
within_levels None = None
within_levels (Some name) = if nat_lt level_limit name.level then None else Some name

-- what was sealed holds, in the table's order, what one merge may leave of these rows
pub record HoldsMerge (schema : Schema) (inputs : List (List Row)) (m : Merging) : Type 0 where
  pub files : Files
  pub sealed_are : m.files ≡ Some files
  pub rows : List Row
  pub rising : IsSorted (sorting_cmp schema) rows
  pub merges : MergesAll schema (flat_map (λ (input : List Row). input) inputs) rows
  pub holds : FolderHolds schema rows files
  pub loaded_is : m.loaded ≡ loaded_of schema rows

-- what was sealed holds rows
pub record SealsRows (schema : Schema) (m : Merging) : Type 0 where
  pub files : Files
  pub sealed_are : m.files ≡ Some files
  pub rows : List Row
  pub holds : FolderHolds schema rows files
  pub loaded_is : m.loaded ≡ loaded_of schema rows

-- whatever rows the parts hold that are merged, what was sealed holds a merge of these
abbrev pub SealsMergeOfParts : {F : Type 0} → (F → Option Files) → Schema → CoreStore F → Merging → Type 0
SealsMergeOfParts {F} files_of schema store m =
    (inputs : List (List Row)) → AllZip (λ (k : Kept (Part F)) (rows : List Row). PartHolds files_of schema k.part rows) (sources_of store m) inputs → HoldsMerge schema inputs m

-- the names of the parts that are merged
abbrev pub source_names : {F : Type 0} → CoreStore F → Merging → List PartName
source_names {F} store m = map (λ (k : Kept (Part F)). k.name) (sources_of store m)

-- By history: under these names there are rows that stand for a front of it, and what was sealed holds what one merge may leave of them.
pub record SealsMerge (schema : Schema) (h : History) (names : List PartName) (m : Merging) : Type 0 where
  pub front : History
  pub more : History
  pub grown : h ≡ front ++ more
  pub inputs : List (List Row)
  pub reach : AllZip (λ (name : PartName) (rows : List Row). PartStands front (record { table = m.table; name = name; rows = rows })) names inputs
  pub holds : HoldsMerge schema inputs m

-- the same, by the list of annals that are known, where the store stands for it
abbrev pub SealsForKept : {F : Type 0} → (F → Option Files) → Schema → CoreStore F → Option keeper.Told → List PartName → Merging → Type 0
SealsForKept files_of schema store annals names m =
    ForSome annals (λ (kept : keeper.Told). CoreStands files_of (entries_of kept.list) store → SealsMerge schema (entries_of kept.list) names m)

-- one part of this name stands in place of those that were merged, with what was sealed; nothing else changes
pub record EntersMerge {F : Type 0} (files_of : F → Option Files) (m : Merging) (name : PartName) (old new : CoreStore F) : Type 0 where
  pub part : Part F
  pub files_are : files_of part.dir ≡ m.files
  pub loaded_is : part.loaded ≡ m.loaded
  pub swapped : IsSwapped m.partition m.run (record { name = name; part = part; busy = false }) (parts_of old.set m.table) (parts_of new.set m.table)
  pub ordered : IsInBlockOrder (parts_of new.set m.table)
  pub others : (u : List ℕ) → u ≢ m.table → parts_of new.set u ≡ parts_of old.set u
  pub tables_are : new.tables ≡ old.tables
  pub mutations_are : new.mutations ≡ old.mutations
  pub length_is : new.length ≡ old.length
  pub opened_is : new.opened ≡ old.opened
