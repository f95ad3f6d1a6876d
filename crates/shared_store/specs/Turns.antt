-- What a turn shows to who had it: what it found, why it was refused, and what its seat knows then (docs/architecture.md, "The lock").
use Rattle.std.specs.Prelude.{◌≡◌, ◌≢◌, ◌⊎◌, ℕ, ◌+◌, ◌-◌, ◌^◌, ◌<◌, ◌≤◌, ◌++◌, ◌∷◌, [], true, List, Option, None, Some, Result, Ok, Err, IfErr, IfSome, IsNone, length}
use Rattle.std.specs.Result.{MatchResult}
use Rattle.mt_values.specs.declared.command.Entry.{Entry}
use Rattle.mt_values.specs.Grid.{Grid}
use Rattle.mt_outside.specs.Causes.{Rose}
use Rattle.mt_outside.specs.Files.{Files}
use Rattle.history_seat.specs.declared.view.View.{View}
use Rattle.history_seat.specs.Turns.{Added, AddsNone}
use Rattle.root_commits.specs.durable_commit.declared.causes.Limit.TheVariants as limit
use Rattle.root_commits.specs.durable_commit.declared.causes.Refused.{Refused}
use Rattle.root_commits.specs.durable_commit.declared.causes.Refused.TheVariants as refused
use Rattle.root_commits.specs.durable_commit.Commits.{IsOutside, stopped_by}
use Rattle.root_commits.specs.mt_model.History.{History}
use Rattle.root_commits.specs.part_name.declared.part.PartName.{PartName}
use Rattle.root_commits.specs.part_set.declared.run.Run.{Run}
use Rattle.root_commits.specs.part_set.Runs.{IsMissing}
use Rattle.root_commits.specs.declared.commits.Returned.{Returned}
use Rattle.root_commits.specs.root_store.declared.store.CoreStore.{CoreStore}
use Rattle.root_commits.specs.root_store.declared.store.Table.{Table}
use Rattle.root_commits.specs.root_store.Stores.{CoreStands, table_at}
use Rattle.root_commits.specs.Commits.{IsCause, cause_of, partition_of_block, refuses_create, refuses_part}
use Rattle.shared_store.specs.declared.work.Put.{Put}
use Rattle.shared_store.specs.declared.work.Put.TheVariants as put
use Rattle.shared_store.specs.declared.work.Work.{Work}
use Rattle.shared_store.specs.Levels.{any_greatest, has_greatest}
use Rattle.shared_store.specs.Sharing.{AtOpening, Fits}
use Rattle.shared_store.specs.Stood.{Premise, is_listed, is_told}
use Rattle.shared_store.specs.Tallies.{Tally, levels_in, stops_in, tally}
use Rattle.shared_store.specs.Works.{SourcesStand, names_of_work, parts_beside}

-- A turn found a list, after which there is a store that shows this, and a disk with some count of faults. The store has the tables of both lists, and stands for them so
-- far as the premises held at opening. The count is at least the one with which the root was first shared, which is no less than the one at opening, and the faults that
-- the share had counted: just that where the share has every part. It is above the one at opening, which is not its type's last value, where the share had counted a stop.
pub record AtTurn {F : Type 0} (files_of : F → Option Files) (given : Premise → Type 0) (before : History) (o : AtOpening) (found : History) (whole : ℕ) (share : Tally) (Shows : CoreStore F → ℕ → Type 0) : Type 0 where
  pub store : CoreStore F
  pub failed : ℕ
  pub opened_is : store.opened ≡ o.failed
  pub fits : Fits before o.tables found store
  pub stands : given is_told → given is_listed → CoreStands files_of (before ++ found) store
  pub since : o.failed ≤ o.shared
  pub below : o.failed < 2 ^ 64 - 1
  pub risen : 0 < share.stops → o.failed < failed
  pub met : o.shared + share.faults ≤ failed
  pub all : share.parts ≡ whole → failed ≡ o.shared + share.faults
  pub shows : Shows store failed

-- what is left of a try by a commit's answer: nothing, where it was accepted; the entry, where what was sealed was given to the disk and so does not come back; else what was tried before
abbrev pub left_of : {S : Type 0} → Option S → Entry → Option Entry → Option Entry
left_of None e last = Some e
left_of (Some back) e last = last

abbrev pub left_by : {T S : Type 0} → Entry → Option Entry → Result T (Returned S) → Option Entry
left_by e last (Ok x) = None
left_by e last (Err r) = left_of r.back e last

-- what a session's seat knows after a turn that found a list: the entry is at its end, and the answer is the length of the history; or it was refused, and the entry is begun where
-- what was sealed was given to the disk
abbrev pub SeatTurns : {S : Type 0} → History → History → Entry → View → View → Result ℕ (Returned S) → Type 0
SeatTurns before found e old new answer = MatchResult answer (λ n. Added old found e new × (n ≡ length before + length new.list)) (λ r. AddsNone old found (left_of r.back e old.tried) new)

-- the entry that a turn added, where it was not refused
abbrev pub entered : {T E : Type 0} → Entry → Result T E → History
entered e (Ok x) = e ∷ []
entered e (Err r) = []

-- why a CREATE was refused, or none where it was not, is what the store and the count show, or of the outside
abbrev pub ShowsCreate : {F : Type 0} → List ℕ → Option Refused → CoreStore F → ℕ → Type 0
ShowsCreate table cause store failed = IsCause (refuses_create store table failed) cause

-- the same of a block of a table
abbrev pub ShowsPart : {F : Type 0} → List ℕ → Grid → Option Refused → CoreStore F → ℕ → Type 0
ShowsPart table block cause store failed = (t : Table) → table_at store table ≡ Some t → IsCause (refuses_part store table (partition_of_block t.schema block) t.drawn failed) cause

-- the sources of a work stand in a run, and the store was not stopped
abbrev pub ShowsDone : {F : Type 0} → Work F → CoreStore F → ℕ → Type 0
ShowsDone work store failed = ((run : Run) × SourcesStand store work run) × IsCause (stopped_by store.opened failed) None

-- this source of a work is the first that does not follow in its partition with its mark
abbrev pub ShowsGone : {F : Type 0} → Work F → PartName → CoreStore F → ℕ → Type 0
ShowsGone work name store failed = IsMissing (names_of_work work) (parts_beside store work) name

-- a source of a work has the greatest level, which some part of the store has then; or the store was stopped, or the outside refused
abbrev pub ShowsRefused : {F : Type 0} → Work F → Refused → CoreStore F → ℕ → Type 0
ShowsRefused work cause store failed =
    ((has_greatest store ≡ true) × (any_greatest work.sources.items ≡ true) × (cause ≡ refused.Limit limit.Levels)) ⊎ IsCause (stopped_by store.opened failed) (Some cause)

-- what a store and the disk's count show to who puts a work
abbrev pub ShowsPut : {F P S : Type 0} → Work F → Result (Put P) (Returned S) → CoreStore F → ℕ → Type 0
ShowsPut work (Ok put.Done) store failed = ShowsDone work store failed
ShowsPut work (Ok (put.Gone name back)) store failed = ShowsGone work name store failed
ShowsPut work (Err r) store failed = ShowsRefused work r.cause store failed

-- What comes back from a commit that was refused: what was sealed; or nothing, since it was given to the disk. Then the outside refused it, and always where the disk failed.
pub record IsBack {S : Type 0} (sealed : S) (r : Returned S) : Type 0 where
  pub same : IfSome r.back (λ s. s ≡ sealed)
  pub given : IsNone r.back → IsOutside (Some r.cause)
  pub failed : r.cause ≡ refused.Disk → IsNone r.back

abbrev pub GivesBack : {T S : Type 0} → S → Result T (Returned S) → Type 0
GivesBack sealed answer = IfErr answer (IsBack sealed)

-- the same of a merge, which comes back also where a source is gone
abbrev pub PutsBack : {P : Type 0} → P → Result (Put P) (Returned P) → Type 0
PutsBack part (Ok put.Done) = Unit {0}
PutsBack part (Ok (put.Gone name back)) = back ≡ part
PutsBack part (Err r) = IsBack part r

-- What a share has counted after a turn that found this count of the disk's faults, and in which so many calls of what was sealed had failed: a stop where the disk failed or the store was stopped, a
-- limit of levels, and by how much the disk's count rose. It rose where the disk failed; and else not, where none of those calls had failed.
pub record Counts (failed calls out : ℕ) (cause : Option Refused) (old new : Tally) : Type 0 where
  pub rise : ℕ
  pub counted : new ≡ tally old.parts out (old.stops + stops_in cause) (old.levels + levels_in cause) (old.faults + rise)
  pub rose : cause ≡ Some refused.Disk → Rose failed (failed + rise)
  pub calm : calls ≡ 0 → cause ≢ Some refused.Disk → rise ≡ 0

-- A turn that found a list, and what the share has counted then.
pub record CountsTurn {F : Type 0} (files_of : F → Option Files) (given : Premise → Type 0) (before : History) (o : AtOpening) (found : History) (whole : ℕ) (calls out : ℕ) (cause : Option Refused) (Shows : CoreStore F → ℕ → Type 0) (old new : Tally) : Type 0 where
  pub turn : AtTurn files_of given before o found whole old Shows
  pub counted : Counts turn.failed calls out cause old new

-- A turn of a session that found a list: what its seat knows then, why it was refused, and what its share has counted.
pub record HasTurn {F S : Type 0} (files_of : F → Option Files) (given : Premise → Type 0) (before : History) (o : AtOpening) (found : History) (whole : ℕ) (calls : ℕ) (e : Entry) (Shows : Option Refused → CoreStore F → ℕ → Type 0) (old new : View) (share_was share : Tally) (answer : Result ℕ (Returned S)) : Type 0 where
  pub seat : SeatTurns before found e old new answer
  pub turn : CountsTurn files_of given before o found whole calls share_was.out (cause_of answer) (Shows (cause_of answer)) share_was share
