-- All that a run promises (docs/definitions-of-runs.md, "Runs").
use Rattle.std.specs.Prelude.{◌≡◌, ◌≢◌, ◌⊎◌, ◌+◌, ◌-◌, ◌<◌, ◌≤◌, ◌^◌, ℕ, Bool, List, [], length, String, true, false, Some, None, Ok, Err, is_some}
use Rattle.std.specs.List.{list_any}
use Rattle.std.specs.declared.alloc.Global.{Global}
use Rattle.mt_values.specs.Annals.{Told}
use Rattle.mt_values.specs.declared.statement.Statement.TheVariants as statement
use Rattle.mt_values.specs.Script.{Item, statements_of}
use Rattle.mt_outside.specs.Causes.{Rose}
use Rattle.mt_outside.specs.Disk as root
use Rattle.session.specs.mt_model.Causes.{NoneMeetsCause}
use Rattle.session.specs.mt_model.History.{History}
use Rattle.root_log.specs.root_opening.declared.opening.Damage.{Damage}
use Rattle.root_log.specs.root_opening.Opening.{IsRootDamage}
use Rattle.root_log.specs.root_store.Crashes.{AllStand}
use Rattle.root_log.specs.root_store.Roots.{Stands}
use Rattle.session.specs.replies.Foreseen.{history}
use Rattle.command_line.specs.Words.{Line, command_of}
use Rattle.session.specs.run_streams.Streams.{ConsumesMost}
use Rattle.mt_program.specs.declared.status.Status.{Status}
use Rattle.mt_program.specs.declared.status.Status.TheVariants as ending
use Rattle.mt_program.specs.Statuses.{status_number}
use Rattle.mt_program.specs.Crashes.{IsAsBefore, LeavesOfScript}
use Rattle.mt_program.specs.Damage.{IsDamagedRoot, WritesDamage, damage_line}
use Rattle.mt_program.specs.Endings.{IsAnswered}
use Rattle.mt_program.specs.Headline.{Headline, HeadlineBy}
use Rattle.mt_program.specs.Worlds.{HasNoFullPart, Starts, World}

-- no call of the disk, the source or the sink failed, as far as their counts show
pub record NoCountRose (before after : World) : Type 0 where
  pub disk : Rose before.storage.failed after.storage.failed → ⊥
  pub source : Rose before.source_failed after.source_failed → ⊥
  pub sink : Rose before.sink_failed after.sink_failed → ⊥

-- Nothing that is handed in stands against a run: the words are a command line, the script is under the bound, and none of its statements, run
-- after the history that was there, each after the commands of those before it, meets a cause to be refused.
pub record NothingRefuses (command : List (String Global)) (script : List ℕ) (h : History) : Type 0 where
  pub words : is_some (command_of command) ≡ true
  pub short : length script < 2 ^ 40
  pub causes : NoneMeetsCause h (statements_of script)

-- an OPTIMIZE with FINAL, which takes up parts of whatever level (docs/definitions-of-runs.md, "Statements taken")
abbrev pub merges_all : Item → Bool
merges_all (Ok (statement.Create c)) = false
merges_all (Ok (statement.Insert i)) = false
merges_all (Ok (statement.Select s)) = false
merges_all (Ok (statement.Explain s)) = false
merges_all (Ok (statement.Optimize o)) = o.whole
merges_all (Err why) = false

-- where some statement of a script is an OPTIMIZE with FINAL, no visible part has the greatest level at the end
abbrev pub MeetsNoFullPart : List ℕ → World → Type 0
MeetsNoFullPart script after = list_any merges_all (statements_of script) ≡ true → HasNoFullPart after

-- where nothing stands against a run, no count rose, and an OPTIMIZE with FINAL meets no part of the greatest level, it ends with 0, or where memory
-- ran out
abbrev pub IsComplete : List (String Global) → World → ℕ → World → Type 0
IsComplete words before status after =
    (kept : Told) (script written : List ℕ) → Starts before kept script written → NothingRefuses words script (history kept) → NoCountRose before after → MeetsNoFullPart script after → (status ≡ 0) ⊎ (status ≡ 6)

-- a run over a damaged root, by the number with which it ends: its line is written, or nothing, and what the disk and the annals tell is as it was,
-- and so is the disk's mark
pub record NotOpened (number : ℕ) (line : List ℕ) (before after : World) : Type 0 where
  pub ended : Status
  pub number_is : number ≡ status_number ended
  pub writes : WritesDamage ended line before.sink_failed after.sink_failed before.sink after.sink
  pub disk : after.storage.disk ≡ before.storage.disk
  pub clock : after.storage.clock ≡ before.storage.clock
  pub annals : after.storage.annals ≡ before.storage.annals

-- What is told of damage. A root that is damaged is not opened. The status 7 comes over no other root, and so not over one that stands for
-- a list: none such is damaged (`damage_of_a_root_is_one` of root_opening).
pub record OfDamage (before : World) (status : ℕ) (after : World) : Type 0 where
  pub opening : (told : root.Told) (damage : Damage) → before.storage.disk ≡ Some told → IsRootDamage (root.names_of told) damage → NotOpened status (damage_line damage) before after
  pub damaged : (told : root.Told) → before.storage.disk ≡ Some told → status ≡ 7 → IsDamagedRoot (root.names_of told)

-- What a crash leaves, at whatever moment of the run. Where whatever a crash left of the disk before stood for the list of the annals, it holds
-- all that was noted; where only the root as it read did, and has a name, that is so once opening has settled what it read, and before that nothing changed.
-- The changes of the disk stand in the order of their marks.
pub record OfCrashes (before after : World) : Type 0 where
  pub kept : (first : Told) (told : root.Told) → before.storage.annals ≡ Some first → before.storage.disk ≡ Some told → AllStand told before.storage.clock (history first)
      → LeavesOfScript before.source before.storage.failed after.storage first before.storage.clock
  pub settles : (first : Told) (told : root.Told) → before.storage.annals ≡ Some first → before.storage.disk ≡ Some told → root.names_of told ≢ [] → AllStand told (before.storage.clock + 1) (history first) → root.IsStamped before.storage.clock told
      → IsAsBefore before.storage after.storage before.sink after.sink
      ⊎ LeavesOfScript before.source before.storage.failed after.storage first (before.storage.clock + 1)

-- the folder that was started, and what is known of the disk, the annals, the source and the sink, are as before
pub record IsUntouched (before after : World) : Type 0 where
  pub started : after.started ≡ before.started
  pub disk : after.storage.disk ≡ before.storage.disk
  pub clock : after.storage.clock ≡ before.storage.clock
  pub annals : after.storage.annals ≡ before.storage.annals
  pub source : after.source ≡ before.source
  pub sink : after.sink ≡ before.sink

-- What a run over the folder of a path leaves, by its status: what is answered and what is told of damage, what a crash leaves, which folder was
-- opened, what was read, and which counts rose.
pub record LeavesOfRun (path : List ℕ) (before : World) (ended : Status) (after : World) : Type 0 where
  pub headline : (kept : Told) (script written : List ℕ) → Starts before kept script written → Headline ended before after kept script written
  pub opening : (told : root.Told) (damage : Damage) → before.storage.disk ≡ Some told → IsRootDamage (root.names_of told) damage
      → WritesDamage ended (damage_line damage) before.sink_failed after.sink_failed before.sink after.sink × (after.storage.disk ≡ before.storage.disk) × (after.storage.clock ≡ before.storage.clock) × (after.storage.annals ≡ before.storage.annals)
  pub sound : (kept : Told) (told : root.Told) → before.storage.annals ≡ Some kept → before.storage.disk ≡ Some told → Stands (root.names_of told) (history kept) → ended ≡ ending.Damaged → ⊥
  pub damaged : (told : root.Told) → before.storage.disk ≡ Some told → ended ≡ ending.Damaged → IsDamagedRoot (root.names_of told)
  pub crashes : OfCrashes before after
  pub folder : (after.started ≡ Some path) ⊎ IsUntouched before after
  pub full : before.storage.failed ≡ 2 ^ 64 - 1 → ended ≡ ending.DiskFault
  pub whole : (script : List ℕ) → before.source ≡ Some script → IsAnswered ended → (length script < 2 ^ 40) × (after.source ≡ Some [])
  pub words : ended ≡ ending.NotWords → ⊥
  pub read : ended ≡ ending.ReadFault → Rose before.source_failed after.source_failed
  pub unfailed : (ended ≡ ending.ReadFault → ⊥) → after.source_failed ≡ before.source_failed
  pub write : ended ≡ ending.WriteFault → Rose before.sink_failed after.sink_failed
  pub disk : ended ≡ ending.DiskFault → Rose before.storage.failed after.storage.failed
  pub long : ended ≡ ending.TooLong → ConsumesMost before.source after.source
  pub calm : IsAnswered ended → after.storage.failed ≡ before.storage.failed
  pub later : before.storage.failed ≤ after.storage.failed

-- Why a run ends with its number: 2 only where the words are no command line, and where they are none it ends with 2, or with 6; 3 exactly where the source's count rose, but for one that can't rise; 4 and 5 only where the count of the sink or the disk rose; 8 only
-- where 2^40 bytes were read; 0 and 1 only where the source was read to its end and the disk's count stayed. A disk whose count can't rise is not
-- opened.
pub record OfCauses (words : List (String Global)) (before : World) (status : ℕ) (after : World) : Type 0 where
  pub number : status ≤ 8
  pub words_only : status ≡ 2 → command_of words ≡ None
  pub no_command : command_of words ≡ None → (status ≡ 2) ⊎ (status ≡ 6)
  pub read : status ≡ 3 → Rose before.source_failed after.source_failed
  pub unfailed : (status ≡ 3 → ⊥) → after.source_failed ≡ before.source_failed
  pub write : status ≡ 4 → Rose before.sink_failed after.sink_failed
  pub disk : status ≡ 5 → Rose before.storage.failed after.storage.failed
  pub long : status ≡ 8 → ConsumesMost before.source after.source
  pub whole : (script : List ℕ) → before.source ≡ Some script → status ≤ 1 → (length script < 2 ^ 40) × (after.source ≡ Some [])
  pub calm : status ≤ 1 → after.storage.failed ≡ before.storage.failed
  pub full : before.storage.failed ≡ 2 ^ 64 - 1 → (status ≡ 2) ⊎ ((status ≡ 5) ⊎ (status ≡ 6))

-- the words are a command line, and the folder that was started is the one that they name
pub record IsFolderOf (words : List (String Global)) (after : World) : Type 0 where
  pub line : Line
  pub says : command_of words ≡ Some line
  pub started : after.started ≡ Some line.folder

-- The folder of the run is that of the words. Where it is another, as where they are no command line, nothing was read, changed or written.
abbrev pub OfFolder : List (String Global) → World → World → Type 0
OfFolder words before after = IsFolderOf words after ⊎ IsUntouched before after

-- All that a run promises, by its words, by what was known of the outside before, by the number with which it ended and by what is known after it.
pub record Promises (words : List (String Global)) (before : World) (status : ℕ) (after : World) : Type 0 where
  pub headline : HeadlineBy status before after
  pub complete : IsComplete words before status after
  pub crashes : OfCrashes before after
  pub damage : OfDamage before status after
  pub folder : OfFolder words before after
  pub causes : OfCauses words before status after
