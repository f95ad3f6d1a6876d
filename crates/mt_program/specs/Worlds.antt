-- What is known of the outside of a run (docs/architecture.md, "Counts of faults").
use Rattle.std.specs.Prelude.{◌≡◌, ◌≤◌, ℕ, Bool, true, false, List, Option, Some}
use Rattle.mt_base.specs.Limits.{level_limit}
use Rattle.mt_values.specs.Annals.{Told}
use Rattle.mt_values.specs.declared.annals.Annals.{Ghosts as AnnalsGhosts}
use Rattle.mt_outside.specs.declared.disk.Disk.{Ghosts as DiskGhosts}
use Rattle.mt_outside.specs.declared.streams.Sink.{Ghosts as SinkGhosts}
use Rattle.mt_outside.specs.declared.streams.Source.{Ghosts as SourceGhosts}
use Rattle.mt_outside.specs.Disk as root
use Rattle.session.specs.mt_model.Outside.{Outside}
use Rattle.root_log.specs.part_set.declared.root_name.RootName.{RootName}
use Rattle.root_log.specs.part_set.declared.root_name.TablePart.{TablePart}
use Rattle.root_log.specs.part_set.Visible.{IsVisible}
use Rattle.root_log.specs.root_commits.Turns.{storage}
use Rattle.root_log.specs.root_store.Crashes.{Storage}
use Rattle.root_log.specs.root_store.Roots.{AreNamesRead, Stands}
use Rattle.session.specs.replies.Foreseen.{history}

-- What is known at a moment: of the disk and the annals, the path of the folder that was started, what the source has left, what was written to the
-- sink, and how many calls have failed.
pub record World : Type 0 where
  pub storage : Storage
  pub started : Option (List ℕ)
  pub source : Option (List ℕ)
  pub source_failed : ℕ
  pub sink : Option (List ℕ)
  pub sink_failed : ℕ

-- what is known at a moment, by each
abbrev pub world : Storage → Option (List ℕ) → Option (List ℕ) → ℕ → Option (List ℕ) → ℕ → World
world kept started source source_failed sink sink_failed =
    record { storage = kept; started = started; source = source; source_failed = source_failed; sink = sink; sink_failed = sink_failed }

-- what is known of a disk and the annals
abbrev pub storage_of : {D R S F N : Type 0} → DiskGhosts D R S F → AnnalsGhosts N → D × N → Storage
storage_of disks annals kept = storage (disks.told kept.0) (disks.clock kept.0) (disks.failed kept.0) (annals.told kept.1)

-- what is known of a disk and the annals, of a source and a sink
abbrev pub world_of : {D R S F N I O : Type 0} → DiskGhosts D R S F → AnnalsGhosts N → SourceGhosts I → SinkGhosts O → D × N → I → O → World
world_of disks annals sources sinks kept source sink =
    world (storage_of disks annals kept) (disks.started kept.0) (sources.left source) (sources.failed source) (sinks.written sink) (sinks.failed sink)

-- a visible part among the names of a root has the greatest level (docs/definitions-of-runs.md, "Faults of the outside")
pub record HasFullPart (names : root.Names) : Type 0 where
  pub read : List RootName
  pub are : AreNamesRead names read
  pub part : TablePart
  pub visible : IsVisible read part
  pub full : level_limit ≤ part.name.level

-- this is so only where it is so of the names of a disk that is known
abbrev pub IsFullOnlyBy : Option root.Told → Bool → Type 0
IsFullOnlyBy disk full = full ≡ true → (told : root.Told) → disk ≡ Some told → HasFullPart (root.names_of told)

-- What the outside did from one moment to another: the disk's counts of faults, and whether a part has the greatest level at the end, which is so
-- only where a visible part has it then. Nobody runs beside the one session (docs/definitions-of-runs.md, "Faults of the outside").
pub record IsOutsideOf (before after : World) (n : Outside) : Type 0 where
  pub opened : n.opened ≡ before.storage.failed
  pub ended : n.ended ≡ after.storage.failed
  pub full : IsFullOnlyBy after.storage.disk n.full
  pub alone : n.company ≡ false

-- no visible part has the greatest level (docs/definitions-of-runs.md, "Faults of the outside")
abbrev pub HasNoFullPart : World → Type 0
HasNoFullPart w = (told : root.Told) → w.storage.disk ≡ Some told → HasFullPart (root.names_of told) → ⊥

-- All of it is known, and the root stands for the list of the annals.
pub record Starts (w : World) (kept : Told) (script written : List ℕ) : Type 0 where
  pub told : root.Told
  pub disk_is : w.storage.disk ≡ Some told
  pub annals_is : w.storage.annals ≡ Some kept
  pub stands : Stands (root.names_of told) (history kept)
  pub source_is : w.source ≡ Some script
  pub sink_is : w.sink ≡ Some written

-- A run begins with the disk and the annals that another left, another script, and a sink to which something was written.
pub record BeginsAfter (left w : World) (script written : List ℕ) : Type 0 where
  pub disk_is : w.storage.disk ≡ left.storage.disk
  pub annals_is : w.storage.annals ≡ left.storage.annals
  pub source_is : w.source ≡ Some script
  pub sink_is : w.sink ≡ Some written
