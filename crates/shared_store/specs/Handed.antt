-- What a snapshot shows, what is known of a work, and what is asked of a block and of a merge, by the list that a seat or a note knows (docs/architecture.md, "The lock").
use Rattle.std.specs.Prelude.{◌≡◌, ℕ, ◌+◌, ◌<◌, ◌≤◌, ◌++◌, ◌∷◌, List, Option, None, Some, Err, length, All}
use Rattle.std.specs.List.{AllZip}
use Rattle.std.specs.Option.{MatchOption}
use Rattle.mt_base.specs.declared.partition.Partition.{Partition}
use Rattle.mt_base.specs.declared.partition.Partition.TheVariants.{Whole}
use Rattle.mt_values.specs.declared.command.Command.{Command}
use Rattle.mt_values.specs.declared.schema.Schema.{Schema}
use Rattle.mt_values.specs.Grid.{Grid}
use Rattle.mt_values.specs.Values.{Row}
use Rattle.mt_outside.specs.Files.{Files}
use Rattle.history_seat.specs.declared.view.View.{View}
use Rattle.root_commits.specs.mt_model.History.{History, IsInsertInto, IsLegal, IsTableSchema, schema_of}
use Rattle.root_commits.specs.mt_model.Numbers.{IsNumberOfInsert}
use Rattle.root_commits.specs.part_history.Parts.{PartStands}
use Rattle.root_commits.specs.part_name.declared.part.PartName.{PartName}
use Rattle.root_commits.specs.part_reader.declared.reading.Part.{Part}
use Rattle.root_commits.specs.part_reader.Parts.{PartHolds}
use Rattle.root_commits.specs.part_set.declared.kept.Kept.{Kept}
use Rattle.root_commits.specs.part_set.declared.kept.Snap.{Snap}
use Rattle.root_commits.specs.part_set.declared.run.Run.{Run}
use Rattle.root_commits.specs.part_set.Parts.{IsInBlockOrder}
use Rattle.root_commits.specs.part_writer.declared.loaded.Loaded.{Loaded}
use Rattle.root_commits.specs.stage_dir.Stages.{Filled}
use Rattle.root_commits.specs.root_store.declared.store.CoreStore.{CoreStore}
use Rattle.root_commits.specs.root_store.Soundness.{HoldsRows}
use Rattle.root_commits.specs.root_store.Stores.{CoreStands}
use Rattle.root_commits.specs.Commits.{IsSealedOf, insert_into, insert_of_block, partition_of_block}
use Rattle.root_commits.specs.Merges.{Merging, SealsMerge, SealsRows}
use Rattle.shared_store.specs.Engines.{IsSnapOf}
use Rattle.shared_store.specs.declared.work.TakeFault.{TakeFault}
use Rattle.shared_store.specs.declared.work.TakeFault.TheVariants as fault
use Rattle.shared_store.specs.declared.work.Work.{Work as Taken}
use Rattle.shared_store.specs.Sharing.{AtOpening, schema_there}
use Rattle.shared_store.specs.Stood.{Premise, is_held, is_listed, is_told}
use Rattle.shared_store.specs.Works.{AnswersWhole, merging_of, names_of_work}

-- ---- snapshots

-- a snapshot shows a table as it is after a history: it is one of a store that stands for that
pub record ShowsTable {F : Type 0} (files_of : F → Option Files) (h : History) (table : List ℕ) (snap : Snap (Part F)) : Type 0 where
  pub store : CoreStore F
  pub stands : CoreStands files_of h store
  pub snap_is : IsSnapOf store table snap

-- A snapshot of a table after both lists: it has the table's schema and the length of both, and its parts stand in block order. So far as the premises held at
-- opening, it shows the table as it is then, and its parts hold rows.
pub record IsPinned {F : Type 0} (files_of : F → Option Files) (given : Premise → Type 0) (before : History) (o : AtOpening) (list : History) (table : List ℕ) (snap : Snap (Part F)) : Type 0 where
  pub there : schema_there o.tables list table ≡ Some snap.schema
  pub schema : IsTableSchema snap.schema
  pub ordered : IsInBlockOrder snap.parts.items
  pub length_is : snap.length ≡ length before + length list
  pub shows : given is_told → given is_listed → ShowsTable files_of (before ++ list) table snap
  pub held : given is_told → given is_held → All (HoldsRows files_of snap.schema) snap.parts.items

-- so far as the premises held at opening, the schema that the lists give a table is that of the whole history
abbrev pub IsSchemaOf : (Premise → Type 0) → History → (List ℕ → Option Schema) → History → List ℕ → Type 0
IsSchemaOf given before tables list table = given is_told → given is_listed → schema_of table (before ++ list) ≡ schema_there tables list table

-- a snapshot, where the lists have the table
abbrev pub Pins : {F : Type 0} → (F → Option Files) → (Premise → Type 0) → History → AtOpening → History → List ℕ → Option (Snap (Part F)) → Type 0
Pins files_of given before o list table found =
    IsSchemaOf given before o.tables list table × MatchOption found (schema_there o.tables list table ≡ None) (IsPinned files_of given before o list table)

-- the schema of a table, where the lists have it: one that a table may have
abbrev pub GivesSchema : (Premise → Type 0) → History → (List ℕ → Option Schema) → History → List ℕ → Option Schema → Type 0
GivesSchema given before tables list table found =
    (found ≡ schema_there tables list table) × MatchOption found (Unit {0}) IsTableSchema × IsSchemaOf given before tables list table

-- ---- blocks

-- A block may be added to a table, by a list: the list or the opening has the table, the rows are of it, and what was sealed of them, where it is told, is what they make.
pub record MayEnter (given : Premise → Type 0) (tables : List ℕ → Option Schema) (list : History) (table : List ℕ) (block : Grid) (sealed : Filled) (loaded : Loaded) : Type 0 where
  pub schema : Schema
  pub there : schema_there tables list table ≡ Some schema
  pub rows : IsInsertInto schema (insert_into table (partition_of_block schema block) block)
  pub sealed_is : given is_told → IsSealedOf schema block sealed.files loaded

-- the partition of a block's rows, by the schema of its table
abbrev pub partition_by : Option Schema → Grid → Partition
partition_by None block = Whole
partition_by (Some schema) block = partition_of_block schema block

-- the command that adds a block to a table, by the schema that the lists give it
abbrev pub insert_there : (List ℕ → Option Schema) → History → List ℕ → Grid → Command
insert_there tables list table block = insert_of_block table (partition_by (schema_there tables list table) block) block

-- ---- works

-- what is known of a work as it is handed out: what was taken up, and what its note knows
pub record Handing (F : Type 0) : Type 0 where
  pub taken : Taken F
  pub note : View

abbrev pub handing : {F : Type 0} → Taken F → View → Handing F
handing taken note = record { taken = taken; note = note }

-- of parts of a table's partition that follow each other in this order, no INSERT into it has a number between the blocks of two neighbours (docs/definitions.md, "The core")
abbrev pub AreNeighbours : History → List ℕ → Partition → List PartName → Type 0
AreNeighbours h table partition names =
    (front back : List PartName) (a b : PartName) → names ≡ front ++ a ∷ b ∷ back → (n : ℕ) → IsNumberOfInsert table partition n h → a.max_block < n → b.min_block ≤ n

-- the sources of a work hold rows that stand for a legal history under their names, and no INSERT lies between two of them
pub record SourcesHold {F : Type 0} (files_of : F → Option Files) (h : History) (work : Taken F) : Type 0 where
  pub legal : IsLegal h
  pub there : schema_of work.table h ≡ Some work.schema
  pub inputs : List (List Row)
  pub hold : AllZip (λ (k : Kept (Part F)) (rows : List Row). PartHolds files_of work.schema k.part rows) work.sources.items inputs
  pub reach : AllZip (λ (name : PartName) (rows : List Row). PartStands h (record { table = work.table; name = name; rows = rows })) (names_of_work work) inputs
  pub neighbours : AreNeighbours h work.table work.partition (names_of_work work)

-- What is known of a work by the list as it was taken up: it has a source, all of its partition and in block order, and its schema is that of its table. So far as the premises
-- held at opening, its sources hold rows that stand for both lists.
pub record IsHanded {F : Type 0} (files_of : F → Option Files) (given : Premise → Type 0) (before : History) (o : AtOpening) (list : History) (work : Taken F) : Type 0 where
  pub some : 0 < length work.sources.items
  pub own : All (λ (k : Kept (Part F)). k.name.partition ≡ work.partition) work.sources.items
  pub ordered : IsInBlockOrder work.sources.items
  pub there : schema_there o.tables list work.table ≡ Some work.schema
  pub schema : IsTableSchema work.schema
  pub reach : given is_told → given is_listed → SourcesHold files_of (before ++ list) work
  pub held : given is_told → given is_held → All (HoldsRows files_of work.schema) work.sources.items

-- what was sealed for a work, as a merge: in which run its sources stand by then is not known
abbrev pub no_run : Run
no_run = record { first = 0; count = 0 }

abbrev pub sealing : {F : Type 0} → Taken F → Filled → Loaded → Merging
sealing work sealed loaded = merging_of work no_run sealed loaded

-- What was sealed for a work, where it is told, holds rows; and so far as the premises held at opening it is a merge of the sources by both lists.
pub record MayPut {F : Type 0} (given : Premise → Type 0) (before list : History) (work : Taken F) (sealed : Filled) (loaded : Loaded) : Type 0 where
  pub rows : given is_told → SealsRows work.schema (sealing work sealed loaded)
  pub merges : given is_told → given is_listed → SealsMerge work.schema (before ++ list) (names_of_work work) (sealing work sealed loaded)

-- why the parts of a partition were not taken up: one of them is being merged, or nothing is said
abbrev pub KeepsFrom : {F : Type 0} → CoreStore F → List ℕ → Partition → TakeFault → Type 0
KeepsFrom store table partition (fault.Busy name) = AnswersWhole store table partition (Err (record { name = name }))
KeepsFrom store table partition fault.NoMemory = Unit {0}
