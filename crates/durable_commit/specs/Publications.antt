-- What is given to the disk, with the entry that the annals note of it or without one, and what becomes of the outside (docs/architecture.md,
-- "Commits").
use Rattle.std.specs.Prelude.{◌≡◌, ◌≢◌, ℕ, ◌+◌, ◌≤◌, List, Option, Some, None, Result, Ok, Err}
use Rattle.std.specs.Option.{ForSome, option_map}
use Rattle.mt_values.specs.declared.command.Entry.{Entry}
use Rattle.mt_values.specs.Annals as keeper
use Rattle.mt_values.specs.Annals.{began, noted}
use Rattle.mt_outside.specs.declared.disk.DiskError.{DiskError}
use Rattle.mt_outside.specs.Causes.{Rose}
use Rattle.mt_outside.specs.Disk.{MayPut, Told, put}
use Rattle.mt_outside.specs.Files.{Files}
use Rattle.stage_dir.specs.Stages.{AreSealed, Filled}
use Rattle.durable_commit.specs.declared.causes.Refused.{Refused}
use Rattle.durable_commit.specs.declared.causes.Refused.TheVariants as refused
use Rattle.durable_commit.specs.Commits.{IsOutside, refused_by_disk}

-- What is known of the outside at some moment: of the disk all changes of its names, its mark and its count of faults; and what annals list.
pub record Storage : Type 0 where
  pub disk : Option Told
  pub clock : ℕ
  pub failed : ℕ
  pub annals : Option keeper.Told

-- the same, by each
abbrev pub storage : Option Told → ℕ → ℕ → Option keeper.Told → Storage
storage disk clock failed annals = record { disk = disk; clock = clock; failed = failed; annals = annals }

-- what is given to the disk: a name, the files that were sealed for it, how many calls of their stage had failed, and the entry that is noted
-- of it, where it is a command
pub record Publication : Type 0 where
  pub name : List ℕ
  pub files : Option Files
  pub failed : ℕ
  pub entry : Option Entry

abbrev pub publication : List ℕ → Filled → Option Entry → Publication
publication name sealed entry = record { name = name; files = sealed.files; failed = sealed.failed; entry = entry }

-- the annals list the entry with its mark; where there is none they stay
abbrev pub Notes : ℕ → Option Entry → Option keeper.Told → Option keeper.Told → Type 0
Notes mark None old new = new ≡ old
Notes mark (Some e) old new = new ≡ option_map (λ (t : keeper.Told). noted mark (began e t)) old

-- the entry is begun; where there is none the annals stay
abbrev pub Begins : Option Entry → Option keeper.Told → Option keeper.Told → Type 0
Begins None old new = new ≡ old
Begins (Some e) old new = new ≡ option_map (began e) old

-- It was published and settled: the name has what was sealed, the mark is one higher, and the annals list the entry with that mark. The
-- disk's count of faults is as it was where no call of the stage had failed.
pub record IsPublished (p : Publication) (was now : Storage) : Type 0 where
  pub sealed : ForSome p.files AreSealed
  pub root : now.disk ≡ put was.clock p.name p.files was.disk
  pub mark : now.clock ≡ was.clock + 1
  pub annals : Notes now.clock p.entry was.annals now.annals
  pub later : was.failed ≤ now.failed
  pub calm : p.failed ≡ 0 → now.failed ≡ was.failed

-- It failed after what was sealed was given to the disk: the name is there or not, the mark stays, and the entry is begun. The cause is one of
-- the outside. It is `Disk` only where the disk's count rose; else the names are as they were, and the count too where no call of the stage had
-- failed.
pub record IsUnsettled (p : Publication) (cause : Refused) (was now : Storage) : Type 0 where
  pub sealed : ForSome p.files AreSealed
  pub outside : IsOutside (Some cause)
  pub root : MayPut was.clock p.name p.files was.disk now.disk
  pub mark : now.clock ≡ was.clock
  pub annals : Begins p.entry was.annals now.annals
  pub later : was.failed ≤ now.failed
  pub rose : cause ≡ refused.Disk → Rose was.failed now.failed
  pub unchanged : cause ≢ refused.Disk → now.disk ≡ was.disk
  pub calm : p.failed ≡ 0 → cause ≢ refused.Disk → now.failed ≡ was.failed

-- what becomes of the outside: it is published, or unsettled
abbrev pub Settles : {T : Type 0} → Publication → Storage → Storage → Result T DiskError → Type 0
Settles p was now (Ok x) = IsPublished p was now
Settles p was now (Err e) = IsUnsettled p (refused_by_disk e) was now
