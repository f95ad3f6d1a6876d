-- What each commit gives to the disk, and what becomes of the outside (docs/architecture.md, "Commits").
use Rattle.std.specs.Prelude.{◌≡◌, ◌≢◌, ℕ, ◌+◌, List, [], ◌∷◌, ◌++◌, Option, Some, None, Result, Ok, Err}
use Rattle.std.specs.Option.{MatchOption}
use Rattle.mt_base.specs.declared.partition.Partition.{Partition}
use Rattle.mt_values.specs.declared.command.Command.TheVariants as command
use Rattle.mt_values.specs.declared.command.Create.{Create}
use Rattle.mt_values.specs.declared.command.Entry.{Entry}
use Rattle.mt_values.specs.Grid.{Grid}
use Rattle.mt_values.specs.RootNames.{create_name, part_name}
use Rattle.root_store.specs.durable_commit.declared.causes.Refused.{Refused}
use Rattle.root_store.specs.durable_commit.declared.causes.Refused.TheVariants as refused
use Rattle.root_store.specs.durable_commit.Commits.{entry_of}
use Rattle.root_store.specs.durable_commit.Publications.{IsPublished, IsUnsettled, Publication, Storage, publication}
use Rattle.root_store.specs.durable_commit.stage_dir.Stages.{Filled}
use Rattle.root_store.specs.mt_model.History.{History}
use Rattle.root_store.specs.part_name.declared.part.PartName.{PartName}
use Rattle.root_store.specs.part_name.PartNames.{part_text}
use Rattle.root_store.specs.part_writer.declared.loaded.Loaded.{Loaded}
use Rattle.root_store.specs.declared.store.Table.{Table}
use Rattle.root_commits.specs.declared.commits.Returned.{Returned}
use Rattle.root_commits.specs.Commits.{fresh_part, insert_of_block, partition_of_block}
use Rattle.root_commits.specs.Merges.{Merging}

-- the history with an entry, where there is one
abbrev pub pushed : Option Entry → History → History
pushed None h = h
pushed (Some entry) h = h ++ entry ∷ []

-- the history once what is given to the disk was published
abbrev pub with_entry : Publication → History → History
with_entry p h = pushed p.entry h

-- a block that a session adds to a table, which is kept as this, and the part that was sealed of it
pub record Adding : Type 0 where
  pub session : ℕ
  pub table : List ℕ
  pub kept : Table
  pub block : Grid
  pub sealed : Filled
  pub loaded : Loaded

abbrev pub adding : ℕ → List ℕ → Table → Grid → Filled → Loaded → Adding
adding session table t block sealed loaded = record { session = session; table = table; kept = t; block = block; sealed = sealed; loaded = loaded }

-- the partition of its rows
abbrev pub partition_of_adding : Adding → Partition
partition_of_adding a = partition_of_block a.kept.schema a.block

-- the entry of a block that is added
abbrev pub entry_of_adding : Adding → Entry
entry_of_adding a = entry_of a.session (insert_of_block a.table (partition_of_adding a) a.block)

-- the entry of a CREATE, with its command
abbrev pub publication_of_create : ℕ → Create → Filled → Publication
publication_of_create session create sealed = publication (create_name create.table) sealed (Some (entry_of session (command.Create create)))

-- the part of a block, with its command
abbrev pub publication_of_part : Adding → Publication
publication_of_part a =
    publication (part_name a.table (part_text (fresh_part (partition_of_adding a) (a.kept.drawn + 1)))) a.sealed (Some (entry_of_adding a))

-- the part of a merge, under its name: no command
abbrev pub publication_of_merge : Merging → PartName → Publication
publication_of_merge m name = publication (part_name m.table (part_text name)) (record { files = m.files; failed = m.failed }) None

-- It was refused before anything was given to the disk, for another cause than `Disk`: what was sealed comes back, and the outside is as it was.
pub record IsKeptBack {S : Type 0} (sealed back : S) (cause : Refused) (was now : Storage) : Type 0 where
  pub returned : back ≡ sealed
  pub stays : now ≡ was
  pub other : cause ≢ refused.Disk

-- what becomes of the outside: it is published, or it was refused, after it was given to the disk or before
abbrev pub Publishes : {T S : Type 0} → Publication → Storage → Storage → S → Result T (Returned S) → Type 0
Publishes p was now sealed (Ok x) = IsPublished p was now
Publishes p was now sealed (Err r) = MatchOption r.back (IsUnsettled p r.cause was now) (λ back. IsKeptBack sealed back r.cause was now)
