-- What a lock knows of its root: each fact so far as its premise held as the root was opened (docs/architecture.md, "The lock").
use Rattle.std.specs.Prelude.{◌≡◌, ◌⊎◌, ◌++◌, ℕ, List, Option, None, Some}
use Rattle.mt_values.specs.Annals as keeper
use Rattle.mt_values.specs.declared.annals.Noted.{Noted}
use Rattle.mt_values.specs.declared.command.Entry.{Entry}
use Rattle.mt_outside.specs.Files.{Files}
use Rattle.root_commits.specs.mt_model.History.{History, entries_of}
use Rattle.root_commits.specs.root_store.Crashes.{KeepsThroughCrashes}
use Rattle.root_commits.specs.root_store.Soundness.{HasSoundParts, RootStands}
use Rattle.root_commits.specs.root_store.Stores.{CoreStands}
use Rattle.shared_store.specs.Engines.{Opened}

-- What may be known of a root as it is opened: what is written to its stages; that the annals list a history for which the store stands; what they list; that the names
-- as they read stand for it; that each part holds rows; and that a crash leaves all that is noted, from a list and a mark on.
pub data Premise : Type 0 where
  is_told : Premise
  is_listed : Premise
  is_noted : keeper.Told → Premise
  is_rooted : Premise
  is_held : Premise
  is_safe : keeper.Told → ℕ → Premise

-- the annals are known to list the history, and what is begun; the store stands for the history
pub record IsListed {F : Type 0} (files_of : F → Option Files) (h : History) (begun : Option Entry) (root : Opened F) : Type 0 where
  pub kept : keeper.Told
  pub annals_is : root.storage.annals ≡ Some kept
  pub list_is : entries_of kept.list ≡ h
  pub begun_is : kept.begun ≡ begun
  pub stands : CoreStands files_of h root.store

-- annals list what they listed first, and perhaps more
abbrev pub ListsMore : keeper.Told → Option keeper.Told → Type 0
ListsMore first annals = (now : keeper.Told) × (annals ≡ Some now) × (more : List Noted) × (now.list ≡ first.list ++ more)

-- what each premise says of a root at its opening, where this is what it says that stages tell
abbrev pub holds_at_opening : {F : Type 0} → (F → Option Files) → Type 0 → History → Option Entry → Opened F → Premise → Type 0
holds_at_opening files_of tells h begun root is_told = tells
holds_at_opening files_of tells h begun root is_listed = IsListed files_of h begun root
holds_at_opening files_of tells h begun root (is_noted first) = ListsMore first root.storage.annals
holds_at_opening files_of tells h begun root is_rooted = RootStands root.storage.disk h
holds_at_opening files_of tells h begun root is_held = HasSoundParts files_of root.store
holds_at_opening files_of tells h begun root (is_safe first start) = KeepsThroughCrashes files_of root.store root.storage first start

-- What is known of a root where so many stops were counted, and this was tried last, and is begun still: the annals list the history and what is begun, and the store
-- stands for it; they list what they listed first, with its marks; the names as they read stand for the history, where no stop was counted or nothing was tried; each part
-- holds rows; and a crash leaves all that was noted.
pub record Stood {F : Type 0} (files_of : F → Option Files) (given : Premise → Type 0) (stops : ℕ) (tried begun : Option Entry) (h : History) (root : Opened F) : Type 0 where
  pub listed : given is_told → given is_listed → IsListed files_of h begun root
  pub grows : (first : keeper.Told) → given (is_noted first) → ListsMore first root.storage.annals
  pub rooted : given is_told → given is_listed → given is_rooted → (stops ≡ 0) ⊎ (tried ≡ None) → RootStands root.storage.disk h
  pub held : given is_told → given is_held → HasSoundParts files_of root.store
  pub safe : given is_told → given is_listed → (first : keeper.Told) (start : ℕ) → given (is_safe first start) → KeepsThroughCrashes files_of root.store root.storage first start
