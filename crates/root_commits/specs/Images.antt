-- What a crash may leave of a disk alone, whatever is known of annals (docs/crashes.md, "What a crash may leave").
use Rattle.std.specs.Prelude.{◌≡◌, ◌≢◌, ◌⊎◌, ℕ, Option, Result, Some}
use Rattle.std.specs.Result.{MatchResult}
use Rattle.mt_outside.specs.Disk.{Image, Names, Since, Told}
use Rattle.root_store.specs.mt_model.History.{History}
use Rattle.root_store.specs.durable_commit.declared.causes.Refused.TheVariants as refused
use Rattle.root_commits.specs.declared.commits.Returned.{Returned}
use Rattle.root_store.specs.Crashes.{AllStand}
use Rattle.root_store.specs.Roots.{Stands}
use Rattle.root_store.specs.Shown.{AreShown}
use Rattle.root_commits.specs.Turns.{Root}

-- The disk is known. Whatever a crash now leaves of it stands for the history, and the visible parts among its names are exactly the store's.
pub record LeavesOne {F : Type 0} (now : Root F) (h : History) : Type 0 where
  pub told : Told
  pub disk_is : now.storage.disk ≡ Some told
  pub all : AllStand told now.storage.clock h
  pub shown : (names : Names) → Image told now.storage.clock names → AreShown now.store names

-- The disk is known, and whatever a crash left of it at a moment since a mark stands for the one history or for the other.
pub record LeavesEither (disk : Option Told) (clock since : ℕ) (h later : History) : Type 0 where
  pub told : Told
  pub disk_is : disk ≡ Some told
  pub images : (names : Names) → Since told clock since names → Stands names h ⊎ Stands names later

-- What a crash leaves of the disk after a turn, where all that one could leave before it stood for a history and showed the store's parts. At
-- each moment of the turn it stands for that history or for the later one. Now it stands for the later one where the turn was done, and for the
-- first where it was refused for another cause than `Disk`, and shows the parts that the store then has.
pub record LeavesAfter {F T S : Type 0} (was now : Root F) (h later : History) (result : Result T (Returned S)) : Type 0 where
  pub during : LeavesEither now.storage.disk now.storage.clock was.storage.clock h later
  pub after : MatchResult result (λ _. LeavesOne now later) (λ r. r.cause ≢ refused.Disk → LeavesOne now h)
