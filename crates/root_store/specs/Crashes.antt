-- What a crash leaves of a root while commands are added to it (docs/crashes.md, "Which lists of commands a crash leaves").
use Rattle.std.specs.Prelude.{◌≡◌, ◌⊎◌, ℕ, ◌+◌, ◌≤◌, List, [], ◌∷◌, ◌++◌, length, take, slice_get, Option, Some, None}
use Rattle.std.specs.Option.{ForSome}
use Rattle.mt_values.specs.declared.annals.Noted.{Noted}
use Rattle.mt_values.specs.declared.command.Entry.{Entry}
use Rattle.mt_values.specs.Annals as keeper
use Rattle.mt_outside.specs.Disk.{Image, IsStamped, LeftAt, Names, Since, Told}
use Rattle.mt_outside.specs.Files.{Files}
use Rattle.table_core.specs.mt_model.History.{History}
pub use Rattle.table_core.specs.mt_model.History.{entries_of}
pub use Rattle.durable_commit.specs.Publications.{Storage}
use Rattle.root_store.specs.declared.store.CoreStore.{CoreStore}
use Rattle.root_store.specs.Roots.{Stands}
use Rattle.root_store.specs.Shown.{ImagesShow}
use Rattle.root_store.specs.Stores.{CoreStands}

-- Whatever a crash now leaves of the disk stands for the history. What is settled comes before what isn't.
pub record AllStand (told : Told) (clock : ℕ) (h : History) : Type 0 where
  pub stamped : IsStamped clock told
  pub images : (names : Names) → Image told clock names → Stands names h

-- the history is the first entries of a list, the first m or more, or all of them and the one that is begun
abbrev pub IsFirstOf : ℕ → List Noted → Option Entry → History → Type 0
IsFirstOf m list begun h =
    ((n : ℕ) × (m ≤ n) × (n ≤ length list) × (h ≡ take n (entries_of list)))
    ⊎ ((e : Entry) × (begun ≡ Some e) × (h ≡ entries_of list ++ e ∷ []))

-- the names stand for such a history
abbrev pub HoldsFirst : ℕ → List Noted → Option Entry → Names → Type 0
HoldsFirst m list begun names = (h : History) × IsFirstOf m list begun h × Stands names h

-- The mark after the first m entries: where they are those that were there at the start it is the mark at the start, else the one with
-- which the last of them was noted.
abbrev pub IsMarkAfter : ℕ → ℕ → List Noted → ℕ → ℕ → Type 0
IsMarkAfter base start list m mark =
    ((m ≡ base) × (mark ≡ start)) ⊎ ((n : ℕ) × (last : Noted) × (base ≤ n) × (m ≡ n + 1) × (slice_get list n ≡ Some last) × (mark ≡ last.mark))

-- the list begins with these entries
abbrev pub BeginsWith : List Noted → List Noted → Type 0
BeginsWith first list = (more : List Noted) × (list ≡ first ++ more)

-- a list, and nothing that is begun
abbrev pub none_begun : List Noted → keeper.Told
none_begun list = record { list = list; begun = None }

-- A list began with some entries when the mark stood at a start. What is settled by then stands for these entries. Whatever a crash leaves at
-- a moment when the first m entries were noted holds them: it stands for the first entries, these or more, or for all of them and the one that is begun.
pub record IsCrashSafe (told : Told) (clock : ℕ) (kept : keeper.Told) (first : List Noted) (start : ℕ) : Type 0 where
  pub stamped : IsStamped clock told
  pub begins : BeginsWith first kept.list
  pub at_start : (names : Names) → LeftAt told start 0 names → Stands names (entries_of first)
  pub past : (m mark : ℕ) → IsMarkAfter (length first) start kept.list m mark → mark ≤ clock
  pub images : (m mark : ℕ) (names : Names) → IsMarkAfter (length first) start kept.list m mark → Since told clock mark names → HoldsFirst m kept.list kept.begun names

-- The disk and the annals are known, and are crash safe from a start on.
pub record AreCrashSafe (now : Storage) (first : keeper.Told) (start : ℕ) : Type 0 where
  pub told : Told
  pub kept : keeper.Told
  pub disk_is : now.disk ≡ Some told
  pub annals_is : now.annals ≡ Some kept
  pub safe : IsCrashSafe told now.clock kept first.list start

-- the same, where what is begun has left nothing
pub record AreCalm (now : Storage) (first : keeper.Told) (start : ℕ) : Type 0 where
  pub told : Told
  pub kept : keeper.Told
  pub disk_is : now.disk ≡ Some told
  pub annals_is : now.annals ≡ Some kept
  pub settled : IsCrashSafe told now.clock (none_begun kept.list) first.list start

-- the store stands for the list of annals that are known
abbrev pub StandsForKept : {F : Type 0} → (F → Option Files) → Option keeper.Told → CoreStore F → Type 0
StandsForKept files_of annals store = ForSome annals (λ (kept : keeper.Told). CoreStands files_of (entries_of kept.list) store)

-- A store over a disk and annals: a crash leaves all that was noted. As long as the disk's count of faults is the one at opening, what
-- is begun has left nothing, the store stands for the list, and the visible parts of whatever a crash now leaves are exactly the store's.
pub record KeepsThroughCrashes {F : Type 0} (files_of : F → Option Files) (store : CoreStore F) (now : Storage) (first : keeper.Told) (start : ℕ) : Type 0 where
  pub safe : AreCrashSafe now first start
  pub calm : now.failed ≡ store.opened → AreCalm now first start × StandsForKept files_of now.annals store × ImagesShow now.disk now.clock store
