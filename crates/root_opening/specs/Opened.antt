-- What a root is opened as, and what its disk's mark is then (docs/architecture.md, "The way of an opening").
use Rattle.std.specs.Prelude.{◌≡◌, ◌⊎◌, ℕ, ◌+◌, List, [], ◌∷◌, Option, Result, MatchResult}
use Rattle.std.specs.Option.{ForSome}
use Rattle.mt_outside.specs.Disk.{Told, names_of}
use Rattle.mt_outside.specs.Files.{Files}
use Rattle.root_store.specs.declared.store.CoreStore.{CoreStore}
use Rattle.root_store.specs.Shown.{HasNoMark}
use Rattle.root_store.specs.Soundness.{HasSoundParts, IsSoundStore, NamesFit}
use Rattle.root_store.specs.Stores.{StoreOf}
use Rattle.root_opening.specs.declared.opening.OpenFault.{OpenFault}

-- the store is what the told names make, each part holds rows, and each name is the entry of a table or a part of one whose name ends by
-- the number that the table drew last
pub record IsOpenedOf {F : Type 0} (files_of : F → Option Files) (store : CoreStore F) (told : Told) : Type 0 where
  pub store_of : StoreOf files_of (names_of told) store
  pub held : HasSoundParts files_of store
  pub names : NamesFit store told

-- A root is opened as this store, over what the disk told. Whatever it told, the store is sound, no part bears a mark, and the store has the
-- disk's count of faults then.
pub record Opens {F : Type 0} (files_of : F → Option Files) (disk : Option Told) (failed : ℕ) (store : CoreStore F) : Type 0 where
  pub told : ForSome disk (IsOpenedOf files_of store)
  pub sound : IsSoundStore store
  pub idle : HasNoMark store
  pub opened : store.opened ≡ failed

-- a mark once these names are settled: one more, where there are any
abbrev pub mark_settled : {X : Type 0} → List X → ℕ → ℕ
mark_settled [] mark = mark
mark_settled (n ∷ names) mark = mark + 1

-- the mark once the names that the disk told are settled; whatever it told, the mark stays or is raised by one
pub record HasSettled (disk : Option Told) (before now : ℕ) : Type 0 where
  pub told : ForSome disk (λ (t : Told). now ≡ mark_settled (names_of t) before)
  pub upto : (now ≡ before) ⊎ (now ≡ before + 1)

-- the names of a root that is opened are settled; where it is not opened the mark stays
abbrev pub SettlesNames : {T : Type 0} → Option Told → ℕ → ℕ → Result T OpenFault → Type 0
SettlesNames disk before now result = MatchResult result (λ _. HasSettled disk before now) (λ _. now ≡ before)
