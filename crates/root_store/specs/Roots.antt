-- Which roots stand for a history (docs/crashes.md, "Roots").
use Rattle.std.specs.Prelude.{◌≡◌, ◌↔◌, ℕ, List, [], ◌∷◌, ◌++◌, map, All, Some, None}
use Rattle.std.specs.List.{Contains as HasItem}
use Rattle.mt_values.specs.declared.command.Entry.{Entry}
use Rattle.mt_values.specs.declared.schema.Schema.{Schema}
use Rattle.mt_outside.specs.Disk.{Names, files_at}
use Rattle.mt_outside.specs.Files.{Files}
use Rattle.table_core.specs.mt_model.History.{History, IsLegal, schema_of}
use Rattle.table_core.specs.mt_model.Numbers.{mutations_in}
use Rattle.table_core.specs.part_set.declared.root_name.RootName.{RootName}
use Rattle.table_core.specs.part_set.declared.root_name.RootName.TheVariants as root
use Rattle.table_core.specs.part_set.declared.root_name.TablePart.{TablePart}
use Rattle.table_core.specs.part_set.RootNames.{IsRootName, root_text}
use Rattle.table_core.specs.part_set.Visible.{HasPart, IsVisible}
pub use Rattle.part_reader.specs.Parts.{FolderHolds}
use Rattle.table_core.specs.part_history.declared.part.CorePart.{CorePart}
use Rattle.table_core.specs.part_history.Parts.{PartsStand}
use Rattle.root_store.specs.Entries.{HoldsEntry, entry_name}

-- the root has a folder of this name, and it is so
pub record HasFolder (names : Names) (name : List ℕ) (Holds : Files → Type 0) : Type 0 where
  pub files : Files
  pub there : files_at name names ≡ Some files
  pub holds : Holds files

-- the name of a part of the core
abbrev pub named : CorePart → TablePart
named part = record { table = part.table; name = part.name }

-- the root has the folder of a part of a table of the history, with the part's rows
pub record PartIsThere (names : Names) (h : History) (part : CorePart) : Type 0 where
  pub schema : Schema
  pub schema_is : schema_of part.table h ≡ Some schema
  pub folder : HasFolder names (root_text (root.Part (named part))) (FolderHolds schema part.rows)

-- the names of a root are those that were read of it, each of the grammar
pub record AreNamesRead (names : Names) (read : List RootName) : Type 0 where
  pub sound : All IsRootName read
  pub spelled : map root_text read ≡ map (λ (n : List ℕ × Files). n.0) names

-- an entry of a history, with those before it and after it
pub record PlacedEntry (h : History) : Type 0 where
  pub before : History
  pub entry : Entry
  pub after : History
  pub is : h ≡ before ++ entry ∷ after

-- a name that is the name of an entry
abbrev pub IsOfEntry : RootName → Type 0
IsOfEntry (root.Create table) = Unit {0}
IsOfEntry (root.Part part) = ⊥

-- The names of a root, with their files, stand for a history (docs/crashes.md, "Roots"). Each name is one of the grammar, and none is of
-- a mutated part; the history has no mutations, since no name is that of one. The entries are exactly those of the history's commands that
-- have one, each of which reads as its command where that stands. The visible parts hold rows with which they stand for the history.
pub record Stands (names : Names) (h : History) : Type 0 where
  pub legal : IsLegal h
  pub read : List RootName
  pub are : AreNamesRead names read
  pub unmutated : (part : TablePart) → HasPart read part → part.name.mutation ≡ None
  pub unaltered : (table : List ℕ) → mutations_in table h ≡ []
  pub entries : (p : PlacedEntry h) (name : List ℕ) → entry_name p.before p.entry.command ≡ Some name
      → HasFolder names name (HoldsEntry p.before p.entry.command)
  pub no_other : (n : RootName) → HasItem read n → IsOfEntry n → (p : PlacedEntry h) × (entry_name p.before p.entry.command ≡ Some (root_text n))
  pub parts : List CorePart
  pub visible : (part : TablePart) → IsVisible read part ↔ HasItem (map named parts) part
  pub stand : PartsStand parts h
  pub there : All (PartIsThere names h) parts
