-- What a store keeps of its tables and of the root's names, whatever history they are of (docs/architecture.md, "The store").
use Rattle.std.specs.Prelude.{◌≡◌, ◌⊎◌, ℕ, ◌-◌, ◌<◌, ◌≤◌, ◌^◌, List, [], All, IsTrue, Option, Some, None}
use Rattle.std.specs.Map.{keys_of}
use Rattle.std.specs.Option.{ForSome}
use Rattle.mt_values.specs.declared.schema.Schema.{Schema}
use Rattle.mt_values.specs.RootNames.{create_name, part_name}
use Rattle.mt_values.specs.Tables.{MayHavePartition}
use Rattle.mt_values.specs.Values.{Row}
use Rattle.mt_outside.specs.Disk.{Told, names_of}
use Rattle.mt_outside.specs.Files.{Files}
use Rattle.table_core.specs.mt_model.History.{History, IsTableSchema}
use Rattle.table_core.specs.part_set.part_name.declared.part.PartName.{PartName}
use Rattle.table_core.specs.part_set.part_name.PartNames.{IsPartName, part_text}
use Rattle.part_reader.specs.declared.reading.Part.{Part}
use Rattle.part_reader.specs.Parts.{PartHolds}
use Rattle.table_core.specs.part_set.declared.kept.Kept.{Kept}
use Rattle.table_core.specs.part_set.RootNames.{is_table}
use Rattle.table_core.specs.part_set.Sets.{parts_of}
use Rattle.root_store.specs.declared.store.CoreStore.{CoreStore}
use Rattle.root_store.specs.declared.store.Table.{Table}
use Rattle.root_store.specs.Roots.{Stands}
use Rattle.root_store.specs.Shown.{AreShown, GreatestAreShown}
use Rattle.root_store.specs.Stores.{HasNoMutation, table_at}

-- each part of the table ends by the last number that was drawn, so that a new part meets none of them
abbrev pub EndsByDrawn : {F : Type 0} → CoreStore F → List ℕ → ℕ → Type 0
EndsByDrawn {F} store table drawn = All (λ (k : Kept (Part F)). k.name.max_block ≤ drawn) (parts_of store.set table)

-- a table that commands may follow: its name and its schema are ones that a table may have, and its parts are of partitions that it may
-- have, begin no later than they end, and end by the number that was drawn last
pub record IsSoundTable {F : Type 0} (store : CoreStore F) (table : List ℕ) (t : Table) : Type 0 where
  pub named : IsTrue (is_table table)
  pub schema : IsTableSchema t.schema
  pub ends : EndsByDrawn store table t.drawn
  pub may : All (λ (k : Kept (Part F)). MayHavePartition t.schema k.name.partition) (parts_of store.set table)
  pub order : All (λ (k : Kept (Part F)). k.name.min_block ≤ k.name.max_block) (parts_of store.set table)

-- each table is so, no other has parts, and no table's queue has a mutation
pub record IsSoundStore {F : Type 0} (store : CoreStore F) : Type 0 where
  pub tables : (table : List ℕ) (t : Table) → table_at store table ≡ Some t → IsSoundTable store table t
  pub no_other : (table : List ℕ) → table_at store table ≡ None → parts_of store.set table ≡ []
  pub mutations : HasNoMutation store

-- a name that the root may have under this store: the entry of a table, or a part of one that ends by the number that was drawn last
pub record IsNameUnder {F : Type 0} (store : CoreStore F) (name : List ℕ) : Type 0 where
  pub table : List ℕ
  pub kept : Table
  pub there : table_at store table ≡ Some kept
  pub is : (name ≡ create_name table) ⊎ ((part : PartName) × IsPartName part × (part.max_block ≤ kept.drawn) × (name ≡ part_name table (part_text part)))

-- every name of the root is such a name
abbrev pub NamesFit : {F : Type 0} → CoreStore F → Told → Type 0
NamesFit store told = All (IsNameUnder store) (keys_of (names_of told))

-- the same, as long as the disk's count of faults is the one at opening; a command whose commit failed may have left its name
abbrev pub NamesFitUnlessRisen : {F : Type 0} → ℕ → Option Told → CoreStore F → Type 0
NamesFitUnlessRisen failed told store = failed ≡ store.opened → ForSome told (NamesFit store)

-- the visible parts among the names are exactly the store's, as long as the disk's count of faults is the one at opening
abbrev pub AreShownUnlessRisen : {F : Type 0} → ℕ → Option Told → CoreStore F → Type 0
AreShownUnlessRisen failed told store = failed ≡ store.opened → ForSome told (λ (t : Told). AreShown store (names_of t))

-- A store that turns may follow: as long as no call of the disk failed since opening each name of the root is the entry of a table or a part
-- of one whose name ends by the number that the table drew last, and the visible parts are exactly the store's. Whatever failed, for each part
-- of the greatest level that the store has one of that level and those blocks is visible. The store is sound, and the disk's count of faults
-- at opening is at most the one now, and below the end of its type.
pub record IsReady {F : Type 0} (failed : ℕ) (told : Option Told) (store : CoreStore F) : Type 0 where
  pub names : NamesFitUnlessRisen failed told store
  pub shown : AreShownUnlessRisen failed told store
  pub greatest : ForSome told (λ (t : Told). GreatestAreShown store (names_of t))
  pub sound : IsSoundStore store
  pub opened : store.opened ≤ failed
  pub below : store.opened < 2 ^ 64 - 1

-- the disk tells a root that stands for a history
abbrev pub RootStands : Option Told → History → Type 0
RootStands told h = (t : Told) × (told ≡ Some t) × Stands (names_of t) h

-- a part holds rows of a table with this schema
abbrev pub HoldsRows : {F : Type 0} → (F → Option Files) → Schema → Kept (Part F) → Type 0
HoldsRows files_of schema kept = (rows : List Row) × PartHolds files_of schema kept.part rows

-- each part of a table of the store holds rows of it, whatever history they are of: none of its files is damaged
abbrev pub HasSoundParts : {F : Type 0} → (F → Option Files) → CoreStore F → Type 0
HasSoundParts files_of store = (table : List ℕ) (t : Table) → table_at store table ≡ Some t → All (HoldsRows files_of t.schema) (parts_of store.set table)
