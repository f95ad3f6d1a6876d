-- What a session's statement is answered, by what its seat knows, what its share has counted and its arm's count of faults (docs/definitions-of-runs.md, "Statements taken").
use Rattle.std.specs.Prelude.{◌≡◌, ◌↔◌, ◌⊎◌, ◌==◌, ◌||◌, ◌+◌, ◌-◌, ◌<◌, ◌≤◌, ℕ, Bool, true, false, List, ◌++◌, length, All, Option, Some, None, is_some, IfSome, IfNone, Result, Ok, Err, IfOk, OnErr, MatchResult, if◌then◌else◌}
use Rattle.std.specs.Option.{MatchOption}
use Rattle.mt_base.specs.declared.memory.NoMemory.{NoMemory}
use Rattle.mt_base.specs.declared.partition.Partition.{Partition}
use Rattle.mt_base.specs.declared.policy.Policy.{Policy}
use Rattle.mt_values.specs.declared.command.Command.{Command}
use Rattle.mt_values.specs.declared.command.Entry.{Entry}
use Rattle.mt_values.specs.declared.schema.Schema.{Schema}
use Rattle.mt_values.specs.declared.statement.OptimizeText.{OptimizeText}
use Rattle.mt_values.specs.declared.statement.SelectText.{SelectText}
use Rattle.mt_values.specs.declared.statement.Statement.TheVariants as statement
use Rattle.mt_values.specs.Script.{Item}
use Rattle.mt_outside.specs.Causes.{Rose}
use Rattle.mt_outside.specs.Files.{Files}
use Rattle.replies.specs.mt_model.History.{History}
use Rattle.replies.specs.mt_model.Outside.{HasRisen, LevelFailed, Outside, PartBusy, ReadOrStageFailed, TurnFailed}
use Rattle.replies.specs.mt_model.declared.refusal.Bound.TheVariants as bound
use Rattle.replies.specs.mt_model.declared.refusal.Refusal.TheVariants as refusal
use Rattle.replies.specs.mt_model.Refusals.{code_of, is_damage, refusal_line}
use Rattle.replies.specs.mt_model.Reply.{ok_line}
use Rattle.replies.specs.mt_model.Session.{AddsNothing, IsNextCommand, RefusedInTurn, Takes, TurnAllows}
use Rattle.replies.specs.Foreseen.{AgreesWith, Met, MetSince, is_unsettled}
use Rattle.merge_workers.specs.shared_store.durable_commit.Commits.{entry_of}
use Rattle.merge_workers.specs.shared_store.history_seat.declared.view.View.{View}
use Rattle.merge_workers.specs.shared_store.history_seat.Turns.{Added, AddsNone, IsSession}
use Rattle.merge_workers.specs.shared_store.history_seat.Views.{Begins, own}
use Rattle.merge_workers.specs.shared_store.part_reader.declared.reading.Part.{Part}
use Rattle.merge_workers.specs.shared_store.part_set.declared.kept.Snap.{Snap}
use Rattle.merge_workers.specs.shared_store.declared.work.Work.{Work as Taken}
use Rattle.merge_workers.specs.shared_store.Handed.{IsHanded, IsPinned, IsSchemaOf, ShowsTable}
use Rattle.merge_workers.specs.shared_store.Engines.{choice_by}
use Rattle.merge_workers.specs.shared_store.Sharing.{AtOpening, schema_there}
use Rattle.merge_workers.specs.shared_store.Stood.{Premise, is_listed, is_told}
use Rattle.merge_workers.specs.shared_store.Tallies.{Tally}
use Rattle.merge_workers.specs.shared_store.Turns.{AtTurn, ShowsDone, ShowsGone}
use Rattle.merge_workers.specs.shared_store.root_store.declared.store.CoreStore.{CoreStore}
use Rattle.merge_workers.specs.shared_store.Works.{AnswersWhole, HasAll, HasPair, HasParts}
use Rattle.merge_workers.specs.shared_store.merge_select.Picks.{HasNone}
use Rattle.merge_workers.specs.shared_store.mutation_queue.declared.scope.Scope.{Scope}
use Rattle.merge_workers.specs.shared_store.mutation_queue.Scopes.{InScope}
use Rattle.merge_workers.specs.shared_store.part_name.declared.part.PartName.{PartName}
use Rattle.merge_workers.specs.shared_store.part_name.PartNames.{IsPartition, part_text, partition_text}
use Rattle.session.specs.declared.sealing.SealedBlock.{SealedBlock}
use Rattle.session.specs.declared.turns.TurnReply.{TurnReply}
use Rattle.session.specs.declared.turns.TurnReply.TheVariants.{Accepted, Refused}
use Rattle.session.specs.Merges.{ArePartitionsOf, IsRefusal, TellsOfPart}
use Rattle.session.specs.Selects.{CountsPlan, ReadsParts, TellsOfDamage}
use Rattle.session.specs.Turns.{IsPartFor, IsRowsFor, NoneFailed, in_turn}

-- ---- what a session has

-- what a seat knows as its session's own is what its list has of the session's number
abbrev pub KnowsOwn : View → Type 0
KnowsOwn v = v.mine ≡ own v.number v.list

-- What a session has before a statement or after it: what its seat knows, what its share has counted, and its arm's count of faults.
pub record Having : Type 0 where
  pub seat : View
  pub share : Tally
  pub arm : ℕ

abbrev pub having : View → Tally → ℕ → Having
having seat share arm = record { seat = seat; share = share; arm = arm }

-- where it stands in the history, after these entries before the opening
abbrev pub place_of : History → View → ℕ
place_of before seat = length before + length seat.list

-- what it has met of the outside: it is alone where its share has every part of the ledgers (docs/architecture.md, "Counts of faults")
abbrev pub met_with : AtOpening → ℕ → Tally → ℕ → Met
met_with o whole share arm = record { opened = o.failed; disk = o.shared + share.faults; stops = share.stops; levels = share.levels; arm = arm; alone = share.parts == whole }

abbrev pub met_by : AtOpening → ℕ → Having → Met
met_by o whole x = met_with o whole x.share x.arm

-- ---- what is answered

-- a session's statement added nothing, or its first commands were accepted and the next one was not (docs/definitions-of-runs.md, "Statements taken")
abbrev pub LacksCommand : History → ℕ → Item → ℕ → ℕ → Type 0
LacksCommand h session statement from to = AddsNothing h session from to ⊎ ((next : Command) × IsNextCommand h session statement from to next)

-- The reply of a statement is one that it may have over the history that the session knows then, from a place to where it stands, whatever the outside comes to that
-- agrees with what it has met. Without a reply the first of the statement's commands were accepted, or none, and not all of them. All this is so far as the premises
-- held as the root was opened (docs/definitions-of-runs.md, "Statements taken").
abbrev pub AnswersFrom : (Premise → Type 0) → History → AtOpening → ℕ → Item → ℕ → ℕ → Having → Result (List ℕ) NoMemory → Type 0
AnswersFrom given before o whole statement number from new result =
    given is_told → given is_listed → (n : Outside) → AgreesWith (met_by o whole new) n
    → MatchResult result (Takes n (before ++ new.seat.list) number statement from (place_of before new.seat)) (λ _. LacksCommand (before ++ new.seat.list) number statement from (place_of before new.seat))

-- the same from where it stood
abbrev pub AnswersAt : (Premise → Type 0) → History → AtOpening → ℕ → Item → Having → Having → Result (List ℕ) NoMemory → Type 0
AnswersAt given before o whole statement old new result =
    AnswersFrom given before o whole statement old.seat.number (place_of before old.seat) new result

-- What stays of what a session has: its seat is outside of a turn and begins with what it knew; it knows its own entries; its share has its parts and its works
-- out; and no count fell.
pub record StaysSession (o : AtOpening) (whole : ℕ) (old new : Having) : Type 0 where
  pub session : IsSession new.seat
  pub number : new.seat.number ≡ old.seat.number
  pub made : new.seat.made ≡ old.seat.made
  pub begins : Begins old.seat.list new.seat.list
  pub own_is : KnowsOwn new.seat
  pub parts : new.share.parts ≡ old.share.parts
  pub out : new.share.out ≡ old.share.out
  pub since : MetSince (met_by o whole old) (met_by o whole new)

-- how many stops a reply tells of, by its number: one where a commit failed or the store was stopped (docs/replies.md, "Faults")
abbrev pub stops_of : ℕ → ℕ
stops_of code = if (code == 16) || (code == 17) then 1 else 0

-- the number of a reply; 0 where there is none
abbrev pub code_in : Option (List ℕ) → ℕ
code_in None = 0
code_in (Some reply) = code_of reply

-- a count of the disk's faults that a session may meet: not below what it knows of, and just that where nobody runs beside (docs/architecture.md, "Counts of faults")
abbrev pub MayMeet : Met → ℕ → Type 0
MayMeet m count = (m.disk ≤ count) × (m.alone ≡ true → count ≡ m.disk)

-- What a reply tells of the disk's count and of levels, or none does, by what the session had met and has met then. It says that a commit failed only where the count was the one at opening before and
-- rose since; and that the store was stopped by a count that is above the one at opening, and that it may meet by then. Unless a commit failed the count rose in no turn of the session. A limit of levels that was counted is told (docs/replies.md, "Faults").
pub record CountsAt (old new : Met) (reply : Option (List ℕ)) : Type 0 where
  pub unsettled : code_in reply ≡ 16 → (old.disk ≡ old.opened) × (old.disk < new.disk)
  pub stopped : code_in reply ≡ 17 → (count accepted : ℕ) × MayMeet new count × (new.opened < count) × (reply ≡ Some (refusal_line (refusal.Stopped new.opened count accepted)))
  pub calm : (code_in reply ≡ 16 → ⊥) → new.disk ≡ old.disk
  pub levels : (new.levels ≡ old.levels) ⊎ ((reply ≡ Some (refusal_line (refusal.Past bound.Levels))) × (new.levels ≡ old.levels + 1))

-- What accounts for a reply, or for none: it is E15 only where the arm's count rose, the share has counted the stop that it tells of, what it tells of the disk's count and of levels is so, and it
-- tells of damage only where this is so. Without a reply no call of the arm failed, and the disk's count rose in no turn of the session.
pub record AccountsAt (o : AtOpening) (whole : ℕ) (old new : Having) (Damage : List ℕ → Type 0) (result : Result (List ℕ) NoMemory) : Type 0 where
  pub failed : IfOk result (λ reply. code_of reply ≡ 15 → Rose old.arm new.arm)
  pub stops : IfOk result (λ reply. new.share.stops ≡ old.share.stops + stops_of (code_of reply))
  pub counts : IfOk result (λ reply. CountsAt (met_by o whole old) (met_by o whole new) (Some reply))
  pub damaged : IfOk result (λ reply. is_damage reply ≡ true → Damage reply)
  pub memory : OnErr result ((new.arm ≡ old.arm) × (new.share.faults ≡ old.share.faults))
  pub later : old.arm ≤ new.arm

-- Where the share had counted a stop before, nothing is accepted any more, and no reply says that a commit failed (docs/crashes.md, "What each step keeps").
abbrev pub StaysStopped : Having → Having → Result (List ℕ) NoMemory → Type 0
StaysStopped old new result = 0 < old.share.stops → (new.seat.mine ≡ old.seat.mine) × IfOk result (λ reply. is_unsettled reply ≡ false)

-- ---- what was tried last

-- what a session had tried last stays, where nothing of its own was accepted; or nothing is, where something was
abbrev pub TriesNone : Having → Having → Type 0
TriesNone old new = ((new.seat.tried ≡ old.seat.tried) × (new.seat.mine ≡ old.seat.mine)) ⊎ (new.seat.tried ≡ None)

-- a reply says that a commit failed; or there is no reply, and no stop was counted
abbrev pub SaysTried : ℕ → Result (List ℕ) NoMemory → Type 0
SaysTried stops (Ok reply) = is_unsettled reply ≡ true
SaysTried stops (Err e) = stops ≡ 0

-- the turn of a command tried nothing more; or the command, which was not accepted (docs/history.md, "What is begun")
abbrev pub TriesCommand : Command → Having → Having → Result (List ℕ) NoMemory → Type 0
TriesCommand c old new result = TriesNone old new ⊎ ((new.seat.tried ≡ Some (entry_of old.seat.number c)) × (new.seat.mine ≡ old.seat.mine) × SaysTried new.share.stops result)

-- A statement tried nothing more; or its next command, from a place on to where the session stands (docs/history.md, "What is begun").
abbrev pub TriesFrom : (Premise → Type 0) → History → Item → ℕ → Having → Having → Result (List ℕ) NoMemory → Type 0
TriesFrom given before statement from old new result =
    TriesNone old new
    ⊎ ((c : Command) × (new.seat.tried ≡ Some (entry_of old.seat.number c)) × SaysTried new.share.stops result
    × (given is_told → given is_listed → IsNextCommand (before ++ new.seat.list) old.seat.number statement from (place_of before new.seat) c))

abbrev pub TriesAt : (Premise → Type 0) → History → Item → Having → Having → Result (List ℕ) NoMemory → Type 0
TriesAt given before statement old new result = TriesFrom given before statement (place_of before old.seat) old new result

-- ---- a SELECT and an EXPLAIN

-- without FINAL the reply has the rows of the parts as they are, of a snapshot that shows the table, unless it is refused (docs/replies.md, "SELECT")
abbrev pub ReadsAsIs : {F : Type 0} → (F → Option Files) → History → SelectText → List ℕ → Type 0
ReadsAsIs {F} files_of h text reply = text.is_final ≡ false → IsRefusal reply ⊎ ((snap : Snap (Part F)) × ShowsTable files_of h text.table snap × ReadsParts files_of snap text reply)

-- A SELECT is answered so over a history, from one place to another: by a reply that it may have there, whatever the outside comes to, so far as a fault of the
-- arm shows in it; and without FINAL by the rows of the parts as they are, of a snapshot that shows the table (docs/definitions.md, "SELECT").
pub record SelectsAt {F : Type 0} (files_of : F → Option Files) (h : History) (session from to : ℕ) (text : SelectText) (arm : ℕ) (reply : List ℕ) : Type 0 where
  pub takes : (n : Outside) → (0 < arm → HasRisen n n.ended) → Takes n h session (Ok (statement.Select text)) from to reply
  pub plain : ReadsAsIs files_of h text reply

-- the reply to a SELECT tells of damage of a part of the table, as it was pinned (docs/replies.md, "Faults")
abbrev pub TellsOfPinned : {F : Type 0} → (F → Option Files) → (Premise → Type 0) → History → AtOpening → History → SelectText → List ℕ → Type 0
TellsOfPinned {F} files_of given before o list text reply = (snap : Snap (Part F)) × IsPinned files_of given before o list text.table snap × TellsOfDamage files_of snap text reply

-- an EXPLAIN may have this reply over a history, from one place to another, whatever the outside comes to (docs/definitions-of-runs.md, "Explained reads")
abbrev pub ExplainsAt : History → ℕ → ℕ → ℕ → SelectText → List ℕ → Type 0
ExplainsAt h session from to text reply = (n : Outside) → Takes n h session (Ok (statement.Explain text)) from to reply

-- an EXPLAIN counts the parts and granules of the table as it was pinned, unless it is refused (docs/replies.md, "Replies")
abbrev pub CountsPinned : {F : Type 0} → (F → Option Files) → (Premise → Type 0) → History → AtOpening → History → SelectText → List ℕ → Type 0
CountsPinned {F} files_of given before o list text reply = IsRefusal reply ⊎ ((snap : Snap (Part F)) × IsPinned files_of given before o list text.table snap × CountsPlan snap text reply)

-- ---- an INSERT

-- Parts may have turns by a list: the opening or the list has the table with this schema, the blocks are rows of it, what was sealed of them, where it is told, is
-- their parts, and no call of their stages failed (docs/definitions-of-runs.md, "Turns").
pub record MayHaveTurnsAt {S : Type 0} (given : Premise → Type 0) (tables : List ℕ → Option Schema) (list : History) (table : List ℕ) (parts : List (SealedBlock S)) : Type 0 where
  pub schema : Schema
  pub there : schema_there tables list table ≡ Some schema
  pub rows : All (IsRowsFor schema table) (in_turn parts)
  pub sealed : given is_told → All (IsPartFor schema) (in_turn parts)
  pub none_failed : All NoneFailed (in_turn parts)

-- What the turn of a command comes to, after some of its statement's commands were accepted. The session found a history, and the entry is at its end and the reply
-- has the length; or the session only looked, and the reply is one that the turn may refuse it with, whatever the outside comes to; or memory ran out, before the turn
-- or in it (docs/definitions-of-runs.md, "Turns").
abbrev pub TurnAt : (Premise → Type 0) → History → AtOpening → ℕ → Command → ℕ → Having → Having → Result TurnReply NoMemory → Type 0
TurnAt given before o whole c accepted old new (Ok (Accepted reply)) =
    (found : History) × Added old.seat found (entry_of old.seat.number c) new.seat × (reply ≡ ok_line (place_of before new.seat)) × (given is_told → given is_listed → TurnAllows (before ++ found) c)
TurnAt given before o whole c accepted old new (Ok (Refused reply)) =
    (found : History) × (last : Option Entry) × AddsNone old.seat found last new.seat
    × (given is_told → given is_listed → (n : Outside) → AgreesWith (met_by o whole new) n → RefusedInTurn n (before ++ found) accepted c reply)
TurnAt given before o whole c accepted old new (Err e) = (new.seat ≡ old.seat) ⊎ ((found : History) × (last : Option Entry) × AddsNone old.seat found last new.seat)

-- ---- an OPTIMIZE

-- whether there is a table, by the lists, and so far as the premises held at opening by the whole history
abbrev pub IsThere : (Premise → Type 0) → History → (List ℕ → Option Schema) → History → List ℕ → Bool → Type 0
IsThere given before tables list table there = IsSchemaOf given before tables list table × (is_some (schema_there tables list table) ≡ there)

-- a work of one of these partitions was taken up: it was handed out at a turn, and has these parts of the store that the turn found (docs/engines.md, "Which parts are merged")
pub record WasTaken {F : Type 0} (files_of : F → Option Files) (given : Premise → Type 0) (before : History) (o : AtOpening) (whole : ℕ) (These : List ℕ → Partition → Type 0) (Has : CoreStore F → Taken F → Type 0) (work : Taken F) : Type 0 where
  pub these : These work.table work.partition
  pub list : History
  pub handed : IsHanded files_of given before o list work
  pub share : Tally
  pub turn : AtTurn files_of given before o list whole share (λ store failed. Has store work)

-- The reply tells of damage of a part that was taken up to be merged: of a source of a work of one of these partitions (docs/replies.md, "Faults").
pub record TellsOfHanded {F : Type 0} (files_of : F → Option Files) (given : Premise → Type 0) (before : History) (o : AtOpening) (whole : ℕ) (These : List ℕ → Partition → Type 0) (reply : List ℕ) : Type 0 where
  pub work : Taken F
  pub taken : WasTaken files_of given before o whole These HasParts work
  pub tells : TellsOfPart files_of work.table work.schema work.sources.items reply

-- The reply names a part that is being merged: the first in block order which a turn found so in one of these partitions (docs/replies.md, "Refusals").
pub record TellsOfBusy {F : Type 0} (files_of : F → Option Files) (given : Premise → Type 0) (before : History) (o : AtOpening) (whole : ℕ) (These : List ℕ → Partition → Type 0) (reply : List ℕ) : Type 0 where
  pub table : List ℕ
  pub partition : Partition
  pub these : These table partition
  pub part : PartName
  pub list : History
  pub share : Tally
  pub turn : AtTurn files_of given before o list whole share (λ store failed. AnswersWhole store table partition (Err (record { name = part })))
  pub reply_is : reply ≡ refusal_line (refusal.Busy (part_text part))

-- a work was put: a turn found its sources in their place, with their marks, and the store not stopped (docs/engines.md, "Merges")
abbrev pub WasPut : {F : Type 0} → (F → Option Files) → (Premise → Type 0) → History → AtOpening → ℕ → Taken F → Type 0
WasPut files_of given before o whole work = (found : History) × (share : Tally) × AtTurn files_of given before o found whole share (ShowsDone work)

-- One of the sources of a work was gone: a turn found that it doesn't follow with its mark. The turn that took the work up found that as well, before it set the marks, so
-- no more is known by this of what became of the work (docs/proved.md, "What no clause says").
abbrev pub WasGone : {F : Type 0} → (F → Option Files) → (Premise → Type 0) → History → AtOpening → ℕ → Taken F → Type 0
WasGone files_of given before o whole work =
    (found : History) × (share : Tally) × (name : PartName) × AtTurn files_of given before o found whole share (ShowsGone work name)

-- what becomes of a work that is carried out without a refusal (docs/engines.md, "Merges")
abbrev pub WasCarriedOut : {F : Type 0} → (F → Option Files) → (Premise → Type 0) → History → AtOpening → ℕ → Taken F → Type 0
WasCarriedOut files_of given before o whole work = WasPut files_of given before o whole work ⊎ WasGone files_of given before o whole work

-- a work of one of these partitions was taken up, which had these parts; and it was put, or one of its sources was gone by then (docs/engines.md, "Which parts are merged")
pub record WasMerged {F : Type 0} (files_of : F → Option Files) (given : Premise → Type 0) (before : History) (o : AtOpening) (whole : ℕ) (These : List ℕ → Partition → Type 0) (Has : CoreStore F → Taken F → Type 0) : Type 0 where
  pub work : Taken F
  pub taken : WasTaken files_of given before o whole These Has work
  pub ended : WasCarriedOut files_of given before o whole work

-- the work has the pair that the policy takes in a scope that has just these partitions
abbrev pub HasPairOf : {F : Type 0} → Policy → (List ℕ → Partition → Type 0) → CoreStore F → Taken F → Type 0
HasPairOf policy These store work = (scope : Scope) × ((t : List ℕ) (p : Partition) → InScope scope t p ↔ These t p) × HasPair policy scope store work

-- at a turn the store showed that the policy may take no pair of these partitions (docs/engines.md, "Which parts are merged")
abbrev pub FoundNoPair : {F : Type 0} → (F → Option Files) → (Premise → Type 0) → History → AtOpening → ℕ → (List ℕ → Partition → Type 0) → Type 0
FoundNoPair files_of given before o whole These =
    (found : History) × (share : Tally) × AtTurn files_of given before o found whole share (λ store failed. (t : List ℕ) (p : Partition) → These t p → HasNone (choice_by o.policy store) t p)

-- at a turn the store showed that the parts of a partition may not be merged into one, or that there is none (docs/engines.md, "Which parts are merged")
abbrev pub FoundNoWhole : {F : Type 0} → (F → Option Files) → (Premise → Type 0) → History → AtOpening → ℕ → List ℕ → Partition → Type 0
FoundNoWhole files_of given before o whole table partition =
    (found : History) × (share : Tally) × AtTurn files_of given before o found whole share (λ store failed. AnswersWhole store table partition (Ok None))

-- the partition of a table
abbrev pub IsThat : List ℕ → Partition → List ℕ → Partition → Type 0
IsThat table partition t p = (t ≡ table) × (p ≡ partition)

-- a partition of the table
abbrev pub IsOf : List ℕ → List ℕ → Partition → Type 0
IsOf table t p = t ≡ table

-- FINAL is done with a partition of a table: all its parts were merged, or may not be, or there is none (ClickHouse, OPTIMIZE)
abbrev pub IsFinalAt : {F : Type 0} → (F → Option Files) → (Premise → Type 0) → History → AtOpening → ℕ → List ℕ → Partition → Type 0
IsFinalAt files_of given before o whole table partition =
    WasMerged files_of given before o whole (IsThat table partition) HasAll ⊎ FoundNoWhole files_of given before o whole table partition

-- the parts of a table were in these partitions, as it was pinned at a turn
pub record WereIn {F : Type 0} (files_of : F → Option Files) (given : Premise → Type 0) (before : History) (o : AtOpening) (table : List ℕ) (partitions : List Partition) : Type 0 where
  pub list : History
  pub snap : Snap (Part F)
  pub pinned : IsPinned files_of given before o list table snap
  pub are : ArePartitionsOf snap.parts.items partitions

-- the partitions that an OPTIMIZE names: of its table the one of its id, or each (ClickHouse, OPTIMIZE)
abbrev pub IsNamed : OptimizeText → List ℕ → Partition → Type 0
IsNamed text table partition = (table ≡ text.table) × IfSome text.partition (λ id. IsPartition partition × (partition_text partition ≡ id))

-- where an OPTIMIZE asks for each partition of its table with FINAL, these are the partitions in which the table's parts were
abbrev pub ListsAsAsked : {F : Type 0} → (F → Option Files) → (Premise → Type 0) → History → AtOpening → OptimizeText → List Partition → Type 0
ListsAsAsked files_of given before o text partitions = text.whole ≡ true → text.partition ≡ None → WereIn files_of given before o text.table partitions

-- What an OPTIMIZE has done that is not refused. With FINAL it is done with each partition that it names: that of its id, or those in which the table's parts were. Without it the pair was merged
-- that the policy takes of those that it names, or the policy may take none, or its id spells no partition (ClickHouse, OPTIMIZE).
pub record MergesAsAsked {F : Type 0} (files_of : F → Option Files) (given : Premise → Type 0) (before : History) (o : AtOpening) (whole : ℕ) (text : OptimizeText) : Type 0 where
  pub final : text.whole ≡ true
      → MatchOption text.partition
      ((partitions : List Partition) × WereIn files_of given before o text.table partitions × All (IsFinalAt files_of given before o whole text.table) partitions)
      (λ id. (p : Partition) → IsNamed text text.table p → IsFinalAt files_of given before o whole text.table p)
  pub pair : text.whole ≡ false
      → WasMerged files_of given before o whole (IsNamed text) (HasPairOf o.policy (IsNamed text)) ⊎ FoundNoPair files_of given before o whole (IsNamed text) ⊎ ((t : List ℕ) (p : Partition) → IsNamed text t p → ⊥)

-- What merges of one statement came to, some of which may have taken parts of the greatest level. All were done, as is shown then, and the arm's count is as before. Or
-- one was refused with a reply that it may have, whatever the outside comes to, so far as the premises held as the root was opened. Or memory ran out (docs/definitions-of-runs.md, "Statements taken").
pub record MergesAt (given : Premise → Type 0) (o : AtOpening) (whole : ℕ) (old new : Tally) (arm_was arm : ℕ) (full : Bool) (Damage Busy : List ℕ → Type 0) (Shows : Type 0) (result : Result (Option (List ℕ)) NoMemory) : Type 0 where
  pub takes : IfOk result (λ found. IfSome found (λ reply. given is_told → given is_listed → (n : Outside) → AgreesWith (met_with o whole new arm) n
      → ReadOrStageFailed n reply ⊎ ((full ≡ true) × (LevelFailed n reply ⊎ PartBusy n reply)) ⊎ TurnFailed n 0 reply))
  pub said : IfOk result (λ found. IfSome found IsRefusal)
  pub damaged : IfOk result (λ found. IfSome found (λ reply. is_damage reply ≡ true → Damage reply))
  pub busy : IfOk result (λ found. IfSome found (λ reply. code_of reply ≡ 14 → Busy reply))
  pub failed : IfOk result (λ found. IfSome found (λ reply. code_of reply ≡ 15 → Rose arm_was arm))
  pub stops : IfOk result (λ found. new.stops ≡ old.stops + stops_of (code_in found))
  pub counts : IfOk result (CountsAt (met_with o whole old arm_was) (met_with o whole new arm))
  pub stopped : 0 < old.stops → IfOk result (λ found. IfSome found (λ reply. is_unsettled reply ≡ false))
  pub done : IfOk result (λ found. IfNone found ((arm ≡ arm_was) × Shows))
  pub memory : OnErr result ((arm ≡ arm_was) × (new.faults ≡ old.faults))
  pub since : MetSince (met_with o whole old arm_was) (met_with o whole new arm)
  pub parts : new.parts ≡ old.parts

-- of which damage the reply to a statement may tell (docs/replies.md, "Faults")
abbrev pub TellsAt : {F : Type 0} → (F → Option Files) → (Premise → Type 0) → History → AtOpening → ℕ → History → Item → List ℕ → Type 0
TellsAt files_of given before o whole list (Ok (statement.Create c)) reply = ⊥
TellsAt files_of given before o whole list (Ok (statement.Insert i)) reply = ⊥
TellsAt files_of given before o whole list (Ok (statement.Select s)) reply = TellsOfPinned files_of given before o list s reply
TellsAt files_of given before o whole list (Ok (statement.Explain s)) reply = ⊥
TellsAt files_of given before o whole list (Ok (statement.Optimize p)) reply = TellsOfHanded files_of given before o whole (IsNamed p) reply
TellsAt files_of given before o whole list (Err why) reply = ⊥

-- What a reply shows beside. A SELECT without FINAL has the rows of the parts as they are, so far as the premises held as the root was opened; an EXPLAIN counts the parts and granules that there are;
-- and an OPTIMIZE has merged what it was asked to. All this is so unless the reply is a refusal. An E14 names the part that a turn found to be merged (docs/definitions-of-runs.md, "Statements taken").
abbrev pub ShowsAt : {F : Type 0} → (F → Option Files) → (Premise → Type 0) → History → AtOpening → ℕ → History → Item → List ℕ → Type 0
ShowsAt files_of given before o whole list (Ok (statement.Create c)) reply = Unit {0}
ShowsAt files_of given before o whole list (Ok (statement.Insert i)) reply = Unit {0}
ShowsAt files_of given before o whole list (Ok (statement.Select s)) reply = given is_told → given is_listed → ReadsAsIs files_of (before ++ list) s reply
ShowsAt files_of given before o whole list (Ok (statement.Explain s)) reply = CountsPinned files_of given before o list s reply
ShowsAt files_of given before o whole list (Ok (statement.Optimize p)) reply =
    (code_of reply ≡ 14 → TellsOfBusy files_of given before o whole (IsNamed p) reply) × (IsRefusal reply ⊎ MergesAsAsked files_of given before o whole p)
ShowsAt files_of given before o whole list (Err why) reply = Unit {0}

-- The reply of a statement says that the commit of a command failed, so that the root may have its name or not. An OPTIMIZE has no command: where
-- the commit of a merge failed, the root stands for the same list with the merged part's name or without (docs/crashes.md, "What each step keeps").
abbrev pub unsettles : Item → List ℕ → Bool
unsettles (Ok (statement.Create c)) reply = is_unsettled reply
unsettles (Ok (statement.Insert i)) reply = is_unsettled reply
unsettles (Ok (statement.Select s)) reply = is_unsettled reply
unsettles (Ok (statement.Explain s)) reply = is_unsettled reply
unsettles (Ok (statement.Optimize o)) reply = false
unsettles (Err why) reply = is_unsettled reply
