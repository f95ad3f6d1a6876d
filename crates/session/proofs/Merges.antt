-- What merges of a session's OPTIMIZE come to.
use Rattle.std.proofs.Common.{◌≡◌, ◌⊎◌, ◌==◌, ℕ, ◌+◌, ◌<◌, ◌≤◌, Bool, true, false, List, Option, Some, None, Result, Ok, Err, IfNone, IfSome, IsErr, inl, inr, refl, sym, ap, ◌∙◌, subst, arith, eqb-true, slice_get}
use Rattle.std.proofs.lemmas.Bool.{false≢true}
use Rattle.std.proofs.lemmas.Option.{get_or_from_slice_get, slice_get_within}
use Rattle.std.specs.List.{Contains as HasItem}
use Rattle.mt_base.specs.declared.memory.NoMemory.{NoMemory}
use Rattle.mt_base.specs.declared.name.FileId.{FileId}
use Rattle.mt_base.specs.declared.partition.Partition.{Partition}
use Rattle.mt_base.specs.declared.policy.Policy.{Policy}
use Rattle.mt_base.specs.Files.{file_name}
use Rattle.mt_values.specs.declared.manifest.FileMark.{FileMark}
use Rattle.mt_outside.specs.Causes.{Rose}
use Rattle.mt_outside.specs.Files.{Files}
use Rattle.replies.specs.mt_model.declared.refusal.Bound.TheVariants as bound
use Rattle.replies.specs.mt_model.declared.refusal.Refusal.TheVariants as refusal
use Rattle.replies.specs.mt_model.declared.refusal.Room.TheVariants as room
use Rattle.replies.specs.mt_model.Outside.{LevelFailed, Outside, PartBusy, ReadOrStageFailed, TurnFailed}
use Rattle.replies.specs.mt_model.Refusals.{code_of, is_damage, refusal_line}
use Rattle.replies.specs.Foreseen.{AgreesWith, MetSince, is_unsettled}
use Rattle.replies.proofs.Meeting.{arm_failed, level_counted, part_busy}
use Rattle.merge_workers.specs.shared_store.durable_commit.declared.causes.Limit.TheVariants as limit
use Rattle.merge_workers.specs.shared_store.durable_commit.declared.causes.Refused.{Refused}
use Rattle.merge_workers.specs.shared_store.durable_commit.declared.causes.Refused.TheVariants as refused
use Rattle.merge_workers.specs.shared_store.durable_commit.Commits.{stopped_by}
use Rattle.merge_workers.specs.shared_store.mutation_queue.declared.scope.Scope.{Scope}
use Rattle.merge_workers.specs.shared_store.mutation_queue.Scopes.{InScope}
use Rattle.merge_workers.specs.shared_store.part_name.declared.part.PartName.{PartName}
use Rattle.merge_workers.specs.shared_store.part_name.PartNames.{part_text}
use Rattle.merge_workers.specs.shared_store.part_reader.declared.reading.PartFault.{PartFault}
use Rattle.merge_workers.specs.shared_store.part_reader.declared.reading.PartFault.TheVariants as fault
use Rattle.merge_workers.specs.shared_store.part_reader.Faults.{IsNoDamage}
use Rattle.merge_workers.specs.shared_store.root_commits.mt_model.History.{History}
use Rattle.merge_workers.specs.shared_store.root_commits.Commits.{IsCause}
use Rattle.merge_workers.specs.shared_store.root_store.declared.store.CoreStore.{CoreStore}
use Rattle.merge_workers.specs.shared_store.declared.work.Work.{Work}
use Rattle.merge_workers.specs.shared_store.Levels.{any_greatest}
use Rattle.merge_workers.specs.shared_store.Handed.{IsHanded}
use Rattle.merge_workers.specs.shared_store.Sharing.{AtOpening}
use Rattle.merge_workers.specs.shared_store.Stood.{Premise, is_listed, is_told}
use Rattle.merge_workers.specs.shared_store.Tallies.{Tally, levels_in, stops_in, tally}
use Rattle.merge_workers.specs.shared_store.Works.{HasAll, HasPair, HasParts}
use Rattle.merge_workers.specs.shared_store.Turns.{AtTurn, CountsTurn, ShowsDone, ShowsGone, ShowsRefused}
use Rattle.final_fold.specs.row_merge.MergedParts.{ExplainsMerge, ExplainsPart}
use Rattle.final_fold.proofs.RowMergeSound.{merge_sound}
use Rattle.session.specs.Merges.{IsRefusal, IsUnreadLine, TellsOfPart}
use Rattle.session.specs.Lapses.{Never}
use Rattle.session.specs.Answers.{CountsAt, FoundNoPair, MergesAt, TellsOfBusy, TellsOfHanded, WasCarriedOut, WasMerged, WasTaken, met_with, stops_of}
use Rattle.session.specs.Stops.{IsLineOf}
use Rattle.session.proofs.Answering.{damaged_code, failed_code, line_stops}
use Rattle.session.proofs.Counting.{counts_coded, counts_done, counts_none, counts_refused, counts_then, other_code, stop_shown, turn_calm}
use Rattle.session.proofs.OnceStopped.{put_not_failed, put_unrisen, unless_disk}
use Rattle.session.proofs.Stopping.{commit_line}
use Rattle.session.proofs.TurnReplies.{turn_failed}

-- what a list has at a place it has
pub item_at : {X : Type 0} (xs : List X) (k : ℕ) (x : X) → slice_get xs k ≡ Some x → HasItem xs x
item_at xs k x is = (k, slice_get_within xs k x is, get_or_from_slice_get xs k x x is)

-- what is said of what was found, where it is known what was
pub of_none : {X : Type 0} (found : Option X) (P : Type 0) → found ≡ None → IfNone found P → P
of_none found P is has = subst (λ (o : Option _). IfNone o P) is has

pub of_some : {X : Type 0} (found : Option X) (x : X) (P : X → Type 0) → found ≡ Some x → IfSome found P → P x
of_some found x P is has = subst (λ (o : Option _). IfSome o P) is has

-- what a share has counted, where no count fell
pub since_counted : (o : AtOpening) (whole : ℕ) (old new : Tally) (arm later : ℕ) → new.parts ≡ old.parts → old.stops ≤ new.stops → old.levels ≤ new.levels → old.faults ≤ new.faults → arm ≤ later → MetSince (met_with o whole old arm) (met_with o whole new later)
since_counted o whole old new arm later parts stops levels faults more =
    record { opened_is = refl; disk = omega (arith, faults); stops = stops; levels = levels; arm = more; company = λ others. ap (λ (n : ℕ). n == whole) parts ∙ others }

-- one after the other
pub since_then : (o : AtOpening) (whole : ℕ) (old mid new : Tally) (arm here later : ℕ) → MetSince (met_with o whole old arm) (met_with o whole mid here) → MetSince (met_with o whole mid here) (met_with o whole new later)
    → MetSince (met_with o whole old arm) (met_with o whole new later)
since_then o whole old mid new arm here later first second = record {
  opened_is = second.opened_is ∙ first.opened_is;
  disk = let low = first.disk in let high = second.disk in omega (arith, low, high);
  stops = let low = first.stops in let high = second.stops in omega (arith, low, high);
  levels = let low = first.levels in let high = second.levels in omega (arith, low, high);
  arm = let low = first.arm in let high = second.arm in omega (arith, low, high);
  company = λ others. second.company (first.company others);
}

-- ---- of which partitions

-- a turn that shows the one shows the other
turn_shows : {F : Type 0} (files_of : F → Option Files) (given : Premise → Type 0) (before : History) (o : AtOpening) (found : History) (whole : ℕ) (share : Tally) (First Second : CoreStore F → ℕ → Type 0)
    → ((store : CoreStore F) (failed : ℕ) → First store failed → Second store failed) → AtTurn files_of given before o found whole share First → AtTurn files_of given before o found whole share Second
turn_shows files_of given before o found whole share First Second says t =
    record { store = t.store; failed = t.failed; opened_is = t.opened_is; fits = t.fits; stands = t.stands; since = t.since; below = t.below; risen = t.risen; met = t.met; all = t.all; shows = says t.store t.failed t.shows }

module _ {F : Type 0} (files_of : F → Option Files) (given : Premise → Type 0) (before : History) (o : AtOpening) (whole : ℕ) (These Those : List ℕ → Partition → Type 0) where
  -- a work of one of these is a work of one of those
  module _ (into : (t : List ℕ) (p : Partition) → These t p → Those t p) where
    taken_of : (Has Other : CoreStore F → Work F → Type 0) → ((store : CoreStore F) (work : Work F) → Has store work → Other store work) → (work : Work F) → WasTaken files_of given before o whole These Has work → WasTaken files_of given before o whole Those Other work
    taken_of Has Other has work t = record {
      these = into work.table work.partition t.these;
      list = t.list;
      handed = t.handed;
      share = t.share;
      turn = turn_shows files_of given before o t.list whole t.share (λ store failed. Has store work) (λ store failed. Other store work) (λ store failed shows. has store work shows) t.turn;
    }

    pub tells_of : (reply : List ℕ) → TellsOfHanded files_of given before o whole These reply → TellsOfHanded files_of given before o whole Those reply
    tells_of reply t = record { work = t.work; taken = taken_of HasParts HasParts (λ store work has. has) t.work t.taken; tells = t.tells }

    pub busy_of : (reply : List ℕ) → TellsOfBusy files_of given before o whole These reply → TellsOfBusy files_of given before o whole Those reply
    busy_of reply t = record { table = t.table; partition = t.partition; these = into t.table t.partition t.these; part = t.part; list = t.list; share = t.share; turn = t.turn; reply_is = t.reply_is }

    pub merged_of : (Has Other : CoreStore F → Work F → Type 0) → ((store : CoreStore F) (work : Work F) → Has store work → Other store work) → WasMerged files_of given before o whole These Has → WasMerged files_of given before o whole Those Other
    merged_of Has Other has m = record { work = m.work; taken = taken_of Has Other has m.work m.taken; ended = m.ended }

  -- where none of these may be taken, none of those is, which are among them
  pub no_pair_of : ((t : List ℕ) (p : Partition) → Those t p → These t p) → FoundNoPair files_of given before o whole These → FoundNoPair files_of given before o whole Those
  no_pair_of within (found, share, t) =
      (found, share, turn_shows files_of given before o found whole share _ _ (λ store failed none u p is. none u p (within u p is)) t)

-- a work that has a pair or all of a partition has parts of it
pub pair_parts : {F : Type 0} (policy : Policy) (scope : Scope) (store : CoreStore F) (work : Work F) → HasPair policy scope store work → HasParts store work
pair_parts policy scope store work has = (has.0, has.2)

pub all_parts : {F : Type 0} (store : CoreStore F) (work : Work F) → HasAll store work → HasParts store work
all_parts store work has = (has.0, has.2)

-- a work that is the pair of a scope is within it
pub picked_within : {F : Type 0} (scope : Scope) (work : Work F) (policy : Policy) (store : CoreStore F) → HasPair policy scope store work → InScope scope work.table work.partition
picked_within scope work policy store has =
    let is = has.1 in
    subst (λ (t : List ℕ). InScope scope t work.partition) (sym is.table_is) (subst (λ (p : Partition). InScope scope is.pick.table.now p) (sym is.partition_is) is.is.in_scope)

-- ---- what merges come to

module _ (given : Premise → Type 0) (o : AtOpening) (whole : ℕ) (old new : Tally) (arm later : ℕ) (full : Bool) (Damage Busy : List ℕ → Type 0) (Shows : Type 0) (since : MetSince (met_with o whole old arm) (met_with o whole new later)) (parts : new.parts ≡ old.parts) where
  -- nothing was refused
  pub merges_done : later ≡ arm → new.stops ≡ old.stops → CountsAt (met_with o whole old arm) (met_with o whole new later) None → Shows → MergesAt given o whole old new arm later full Damage Busy Shows (Ok None)
  merges_done calm stops counts shows =
      record { takes = tt; said = tt; damaged = tt; busy = tt; failed = tt; stops = omega (arith, stops); counts = counts; stopped = λ some. tt; done = (calm, shows); memory = tt; since = since; parts = parts }

  -- memory ran out
  pub merges_ended : later ≡ arm → new.faults ≡ old.faults → (e : NoMemory) → MergesAt given o whole old new arm later full Damage Busy Shows (Err e)
  merges_ended calm faults e = record { takes = tt; said = tt; damaged = tt; busy = tt; failed = tt; stops = tt; counts = tt; stopped = λ some. tt; done = tt; memory = (calm, faults); since = since; parts = parts }

  pub merges_ended_result : later ≡ arm → new.faults ≡ old.faults → (result : Result (Option (List ℕ)) NoMemory) → IsErr result → MergesAt given o whole old new arm later full Damage Busy Shows result
  merges_ended_result calm faults (Ok x) is = cc
  merges_ended_result calm faults (Err e) is = merges_ended calm faults e

  -- one was refused
  pub merges_refused : (reply : List ℕ) → IsRefusal reply
      → (given is_told → given is_listed → (n : Outside) → AgreesWith (met_with o whole new later) n → ReadOrStageFailed n reply ⊎ ((full ≡ true) × (LevelFailed n reply ⊎ PartBusy n reply)) ⊎ TurnFailed n 0 reply)
      → (is_damage reply ≡ true → Damage reply) → (code_of reply ≡ 14 → Busy reply) → (code_of reply ≡ 15 → Rose arm later) → new.stops ≡ old.stops + stops_of (code_of reply) → CountsAt (met_with o whole old arm) (met_with o whole new later) (Some reply)
      → (0 < old.stops → is_unsettled reply ≡ false) → MergesAt given o whole old new arm later full Damage Busy Shows (Ok (Some reply))
  merges_refused reply said takes damaged busy failed stops counts stopped =
      record { takes = takes; said = said; damaged = damaged; busy = busy; failed = failed; stops = stops; counts = counts; stopped = stopped; done = tt; memory = tt; since = since; parts = parts }

-- ---- a work that was put, or a part of which was gone

module _ {F : Type 0} (files_of : F → Option Files) (given : Premise → Type 0) (before : History) (o : AtOpening) (found : History) (whole : ℕ) (old new : Tally) (work : Work F) (out arm later : ℕ) (calm : later ≡ arm)
    (full : Bool) (Damage Busy : List ℕ → Type 0) where
  abbrev Ends : Type 0
  Ends = MergesAt given o whole old new arm later full Damage Busy (WasCarriedOut files_of given before o whole work) (Ok None)

  work_carried : (Shows : CoreStore F → ℕ → Type 0) → CountsTurn files_of given before o found whole 0 out None Shows old new → WasCarriedOut files_of given before o whole work → Ends
  work_carried Shows t ended =
      let parts = ap (λ (x : Tally). x.parts) t.counted.counted in
      let stops = ap (λ (x : Tally). x.stops) t.counted.counted in
      let levels = ap (λ (x : Tally). x.levels) t.counted.counted in
      let faults = ap (λ (x : Tally). x.faults) t.counted.counted in
      let same = counts_done files_of given before o found whole 0 out refl Shows old new t arm later in
      merges_done given o whole old new arm later full Damage Busy (WasCarriedOut files_of given before o whole work)
      (since_counted o whole old new arm later parts (omega (arith, stops)) (omega (arith, levels)) (omega (arith, faults)) (omega (arith, calm))) parts calm (omega (arith, stops))
      (counts_none (met_with o whole old arm) (met_with o whole new later) same.0 same.1) ended

  pub work_done : CountsTurn files_of given before o found whole 0 out None (ShowsDone work) old new → Ends
  work_done t = work_carried (ShowsDone work) t (inl (found, old, t.turn))

  pub work_gone : (name : PartName) → CountsTurn files_of given before o found whole 0 out None (ShowsGone work name) old new → Ends
  work_gone name t = work_carried (ShowsGone work name) t (inr (found, old, name, t.turn))

-- ---- a work whose commit was refused

-- the line of a commit that was refused is a refusal
line_said : (table : List ℕ) (cause : Refused) (reply : List ℕ) → IsLineOf 0 table cause reply → IsRefusal reply
line_said table refused.NoMemory reply line = absurd line
line_said table refused.Disk reply line = (refusal.Unsettled 0, line)
line_said table (refused.Stopped opened now) reply line = (refusal.Stopped opened now 0, line)
line_said table refused.Exists reply line = (refusal.TableExists table, line)
line_said table (refused.Limit limit.Tables) reply line = (refusal.Past bound.Tables, line)
line_said table (refused.Limit limit.Parts) reply line = (refusal.Full room.Parts 0, line)
line_said table (refused.Limit limit.Numbers) reply line = (refusal.Full room.Numbers 0, line)
line_said table (refused.Limit limit.Levels) reply line = (refusal.Past bound.Levels, line)

-- and tells of no part that is being merged
line_not_busy : (table : List ℕ) (cause : Refused) (reply : List ℕ) → IsLineOf 0 table cause reply → code_of reply ≡ 14 → ⊥
line_not_busy table refused.NoMemory reply line = absurd line
line_not_busy table refused.Disk reply line = other_code reply 16 14 (ap code_of line) refl
line_not_busy table (refused.Stopped opened now) reply line = other_code reply 17 14 (ap code_of line) refl
line_not_busy table refused.Exists reply line = other_code reply 3 14 (ap code_of line) refl
line_not_busy table (refused.Limit limit.Tables) reply line = other_code reply 12 14 (ap code_of line) refl
line_not_busy table (refused.Limit limit.Parts) reply line = other_code reply 12 14 (ap code_of line) refl
line_not_busy table (refused.Limit limit.Numbers) reply line = other_code reply 12 14 (ap code_of line) refl
line_not_busy table (refused.Limit limit.Levels) reply line = other_code reply 12 14 (ap code_of line) refl

module _ {F : Type 0} (files_of : F → Option Files) (given : Premise → Type 0) (before : History) (o : AtOpening) (found : History) (whole : ℕ) (old new : Tally) (work : Work F) (cause : Refused) (out : ℕ)
    (t : CountsTurn files_of given before o found whole 0 out (Some cause) (ShowsRefused work cause) old new) (arm later : ℕ) (calm : later ≡ arm) (Damage Busy : List ℕ → Type 0) (Shows : Type 0) where
  parts : new.parts ≡ old.parts
  parts = ap (λ (x : Tally). x.parts) t.counted.counted

  since : MetSince (met_with o whole old arm) (met_with o whole new later)
  since =
      let stops = ap (λ (x : Tally). x.stops) t.counted.counted in
      let levels = ap (λ (x : Tally). x.levels) t.counted.counted in
      let faults = ap (λ (x : Tally). x.faults) t.counted.counted in
      since_counted o whole old new arm later parts (omega (arith, stops)) (omega (arith, levels)) (omega (arith, faults)) (omega (arith, calm))

  has_stop : 0 < stops_in (Some cause) → 0 < new.stops
  has_stop some = let is = ap (λ (x : Tally). x.stops) t.counted.counted in omega (arith, is, some)

  knows_count : (new.parts == whole) ≡ true → t.turn.failed ≤ o.shared + new.faults
  knows_count is =
      let count = t.turn.all (sym parts ∙ eqb-true new.parts whole is) in
      let faults = ap (λ (x : Tally). x.faults) t.counted.counted in
      omega (arith, faults, count)

  has_level : cause ≡ refused.Limit limit.Levels → 0 < new.levels
  has_level is =
      let one = ap (λ (c : Refused). levels_in (Some c)) is in
      let has = ap (λ (x : Tally). x.levels) t.counted.counted in
      omega (arith, one, has)

  shown : (opened count : ℕ) → cause ≡ refused.Stopped opened count → (opened ≡ o.failed) × (count ≡ t.turn.failed) × (o.failed < t.turn.failed)
  shown opened count is = elim t.turn.shows [
    | inl (full, any, levels) ↦ (let bad : refused.Limit limit.Levels ≡ refused.Stopped opened count = sym levels ∙ is in cc)
    | inr said ↦ stop_shown o.failed t.turn.store.opened t.turn.failed cause t.turn.opened_is said opened count is
  ]

  module _ (table reply : List ℕ) (line : IsLineOf 0 table cause reply) where
    turn_says : (n : Outside) → AgreesWith (met_with o whole new later) n
        → ReadOrStageFailed n reply ⊎ ((any_greatest work.sources.items ≡ true) × (LevelFailed n reply ⊎ PartBusy n reply)) ⊎ TurnFailed n 0 reply
    turn_says n a = elim t.turn.shows [
      | inl (full, any, is) ↦ inr (inl (any, inl (level_counted (met_with o whole new later) n a reply (has_level is) (subst (λ (c : Refused). IsLineOf 0 table c reply) is line))))
      | inr said ↦ inr (inr (turn_failed (met_with o whole new later) n a t.turn.failed 0 table cause reply line has_stop knows_count (subst (λ (x : ℕ). IsCause (stopped_by x t.turn.failed) (Some cause)) t.turn.opened_is said)))
    ]

    pub work_refused : MergesAt given o whole old new arm later (any_greatest work.sources.items) Damage Busy Shows (Ok (Some reply))
    work_refused =
        let is = line_stops 0 table cause reply line in
        merges_refused given o whole old new arm later (any_greatest work.sources.items) Damage Busy Shows since parts reply
        (line_said table cause reply line) (λ told known. turn_says) (λ bad. absurd (false≢true (sym (commit_line 0 table cause reply line) ∙ bad))) (λ e. absurd (line_not_busy table cause reply line e)) (λ e. absurd (is.1 e))
        (ap (λ (x : Tally). x.stops) t.counted.counted ∙ ap (λ (n : ℕ). old.stops + n) is.0)
        (counts_refused files_of given before o found whole 0 out refl cause (ShowsRefused work cause) old new t arm later shown
        (put_unrisen files_of given before o found whole old (ShowsRefused work cause) t.turn work cause t.turn.shows) 0 table reply line)
        (λ some. unless_disk 0 table cause reply line (put_not_failed files_of given before o found whole old (ShowsRefused work cause) t.turn some work cause t.turn.shows))

  -- there was no room for the line
  pub work_ended : (cause ≡ refused.Disk → ⊥) → (result : Result (Option (List ℕ)) NoMemory) → IsErr result → MergesAt given o whole old new arm later (any_greatest work.sources.items) Damage Busy Shows result
  work_ended other result is =
      merges_ended_result given o whole old new arm later (any_greatest work.sources.items) Damage Busy Shows since parts calm
      (turn_calm files_of given before o found whole 0 out refl (Some cause) (ShowsRefused work cause) old new t (λ bad. other (let same : cause ≡ refused.Disk = cc in same))) result is

-- ---- a work that was let go

module _ {F : Type 0} (files_of : F → Option Files) (given : Premise → Type 0) (before : History) (o : AtOpening) (whole : ℕ) (old new : Tally) (work : Work F) (list : History) (facts : IsHanded files_of given before o list work)
    (arm later out : ℕ) (counted : new ≡ tally old.parts out old.stops old.levels old.faults) (table : List ℕ) (table_is : table ≡ work.table) (name : PartName) (why : PartFault) (explained : ExplainsMerge files_of work.schema work.sources.items (name, why))
    (more : arm ≤ later) (rose : why ≡ fault.Fault → Rose arm later) (Busy : List ℕ → Type 0) (Shows : Type 0) where
  abbrev Tells : List ℕ → Type 0
  Tells reply = TellsOfPart files_of work.table work.schema work.sources.items reply

  abbrev Comes : List ℕ → Type 0
  Comes reply = MergesAt given o whole old new arm later (any_greatest work.sources.items) Tells Busy Shows (Ok (Some reply))

  same_parts : new.parts ≡ old.parts
  same_parts = ap (λ (t : Tally). t.parts) counted

  same_stops : new.stops ≡ old.stops
  same_stops = ap (λ (t : Tally). t.stops) counted

  same_levels : new.levels ≡ old.levels
  same_levels = ap (λ (t : Tally). t.levels) counted

  same_faults : new.faults ≡ old.faults
  same_faults = ap (λ (t : Tally). t.faults) counted

  since_let : MetSince (met_with o whole old arm) (met_with o whole new later)
  since_let = since_counted o whole old new arm later same_parts (omega (arith, same_stops)) (omega (arith, same_levels)) (omega (arith, same_faults)) more

  no_stop : (reply : List ℕ) → stops_of (code_of reply) ≡ 0 → new.stops ≡ old.stops + stops_of (code_of reply)
  no_stop reply none = omega (arith, none, same_stops)

  counts : (reply : List ℕ) (m : ℕ) → code_of reply ≡ m → (m == 16) ≡ false → (m == 17) ≡ false → CountsAt (met_with o whole old arm) (met_with o whole new later) (Some reply)
  counts reply m code first second = counts_coded (met_with o whole old arm) (met_with o whole new later) (omega (arith, same_faults)) same_levels reply m code first second

  -- a call of the arm or of a stage failed
  fault_merges : why ≡ fault.Fault → (reply : List ℕ) → reply ≡ refusal_line refusal.Failed → Comes reply
  fault_merges is reply said =
      let code = failed_code reply said in
      merges_refused given o whole old new arm later (any_greatest work.sources.items) Tells Busy Shows since_let same_parts reply (refusal.Failed, said) (λ told known n a. inl (arm_failed (met_with o whole new later) n a reply arm (rose is) said))
      (λ bad. absurd (false≢true (sym (ap (λ (k : ℕ). k == 19) code) ∙ bad))) (λ e. absurd (other_code reply 15 14 code refl e)) (λ _. rose is) (no_stop reply (ap stops_of code)) (counts reply 15 code refl refl) (λ some. ap (λ (k : ℕ). k == 16) code)

  -- a part is damaged
  damaged_merges : (file : FileId) (place : ℕ) (wanted found : FileMark) → why ≡ fault.Damaged file place wanted found → (reply : List ℕ) → reply ≡ refusal_line (refusal.Damaged table (part_text name) (file_name file)) → Comes reply
  damaged_merges file place wanted found is reply said =
      let code = damaged_code table (part_text name) (file_name file) reply said in
      merges_refused given o whole old new arm later (any_greatest work.sources.items) Tells Busy Shows since_let same_parts reply (refusal.Damaged table (part_text name) (file_name file), said)
      (λ told known n a. let r = facts.reach told known in absurd (subst IsNoDamage is (merge_sound files_of work.schema work.sources.items r.inputs r.hold (name, why) explained)))
      (λ bad. record {
        kept = explained.kept;
        here = item_at work.sources.items explained.at explained.kept explained.kept_is;
        file = file;
        place = place;
        wanted = wanted;
        found = found;
        explained = subst (ExplainsPart files_of work.schema explained.kept.part) is explained.explained;
        reply_is = said ∙ ap (λ (n : PartName). refusal_line (refusal.Damaged table (part_text n) (file_name file))) explained.name_is
            ∙ ap (λ (t : List ℕ). refusal_line (refusal.Damaged t (part_text explained.kept.name) (file_name file))) table_is;
      })
      (λ e. absurd (other_code reply 19 14 code refl e)) (λ e. absurd (other_code reply 19 15 code refl e)) (no_stop reply (ap stops_of code)) (counts reply 19 code refl refl) (λ some. ap (λ (k : ℕ). k == 16) code)

  pub unread_merges : (reply : List ℕ) → IsUnreadLine table name why reply → Comes reply
  unread_merges reply line = by why refl line
    where
      by : (f : PartFault) → why ≡ f → IsUnreadLine table name f reply → Comes reply
      by fault.NoMemory is said = absurd said
      by fault.Fault is said = fault_merges is reply said
      by (fault.Damaged file place wanted found) is said = damaged_merges file place wanted found is reply said

  -- there was no room for the line
  pub unread_ended : later ≡ arm → (result : Result (Option (List ℕ)) NoMemory) → IsErr result → MergesAt given o whole old new arm later (any_greatest work.sources.items) Tells Busy Shows result
  unread_ended calm result is = merges_ended_result given o whole old new arm later (any_greatest work.sources.items) Tells Busy Shows since_let same_parts calm same_faults result is

-- ---- turns in which nothing failed

module _ (given : Premise → Type 0) (o : AtOpening) (whole : ℕ) (old new : Tally) (arm : ℕ) (full : Bool) (Damage Busy : List ℕ → Type 0) (Shows : Type 0) (same : new ≡ old) where
  still_parts : new.parts ≡ old.parts
  still_parts = ap (λ (t : Tally). t.parts) same

  still_stops : new.stops ≡ old.stops
  still_stops = ap (λ (t : Tally). t.stops) same

  still_levels : new.levels ≡ old.levels
  still_levels = ap (λ (t : Tally). t.levels) same

  still_faults : new.faults ≡ old.faults
  still_faults = ap (λ (t : Tally). t.faults) same

  since_same : MetSince (met_with o whole old arm) (met_with o whole new arm)
  since_same = since_counted o whole old new arm arm still_parts (omega (arith, still_stops)) (omega (arith, still_levels)) (omega (arith, still_faults)) (omega arith)

  -- nothing was taken up
  pub merges_stay_done : Shows → MergesAt given o whole old new arm arm full Damage Busy Shows (Ok None)
  merges_stay_done shows =
      merges_done given o whole old new arm arm full Damage Busy Shows since_same still_parts refl still_stops (counts_none (met_with o whole old arm) (met_with o whole new arm) (omega (arith, still_faults)) still_levels) shows

  pub merges_stay_ended : (e : NoMemory) → MergesAt given o whole old new arm arm full Damage Busy Shows (Err e)
  merges_stay_ended e = merges_ended given o whole old new arm arm full Damage Busy Shows since_same still_parts refl still_faults e

  pub merges_stay_ended_result : (result : Result (Option (List ℕ)) NoMemory) → IsErr result → MergesAt given o whole old new arm arm full Damage Busy Shows result
  merges_stay_ended_result (Ok x) is = cc
  merges_stay_ended_result (Err e) is = merges_stay_ended e

  -- a part was being merged already, which a session with the whole share never meets
  module _ (part : List ℕ) (apart : old.parts ≡ whole → ⊥) where
    others : (b : Bool) → (new.parts == whole) ≡ b → (new.parts == whole) ≡ false
    others true is = absurd (apart (sym still_parts ∙ eqb-true new.parts whole is))
    others false is = is

    pub merges_busy : full ≡ true → (reply : List ℕ) → reply ≡ refusal_line (refusal.Busy part) → Busy reply → MergesAt given o whole old new arm arm full Damage Busy Shows (Ok (Some reply))
    merges_busy any reply line told =
        merges_refused given o whole old new arm arm full Damage Busy Shows since_same still_parts reply (refusal.Busy part, line)
        (λ told known n a. inr (inl (any, inr (part_busy (met_with o whole new arm) n a reply part (others (new.parts == whole) refl) line))))
        (λ bad. absurd (false≢true (sym (ap is_damage line) ∙ bad))) (λ _. told) (λ e. let bad : 14 ≡ 15 = sym (ap code_of line) ∙ e in cc)
        (let none : stops_of (code_of reply) ≡ 0 = ap (λ (r : List ℕ). stops_of (code_of r)) line in omega (arith, none, still_stops))
        (counts_coded (met_with o whole old arm) (met_with o whole new arm) (omega (arith, still_faults)) still_levels reply 14 (ap code_of line) refl refl) (λ some. ap is_unsettled line)

-- a share that took a work up, and then what became of that
pub merges_after_take : (given : Premise → Type 0) (o : AtOpening) (whole : ℕ) (old mid new : Tally) (arm later : ℕ) (full : Bool) (Damage Busy : List ℕ → Type 0) (Shows : Type 0) (result : Result (Option (List ℕ)) NoMemory)
    → mid ≡ tally old.parts (old.out + 1) old.stops old.levels old.faults → MergesAt given o whole mid new arm later full Damage Busy Shows result → MergesAt given o whole old new arm later full Damage Busy Shows result
merges_after_take given o whole old mid new arm later full Damage Busy Shows result taken m =
    let f = subst (λ (t : Tally). MergesAt given o whole t new arm later full Damage Busy Shows result) taken m in
    record { takes = f.takes; said = f.said; damaged = f.damaged; busy = f.busy; failed = f.failed; stops = f.stops; counts = f.counts; stopped = f.stopped; done = f.done; memory = f.memory; since = f.since; parts = f.parts }

-- what is shown, and told of damage and of marks, shows and tells more; and more may have been met
module _ (given : Premise → Type 0) (o : AtOpening) (whole : ℕ) (old new : Tally) (arm later : ℕ) (full more : Bool) (Damage Other Busy Marked : List ℕ → Type 0) (Shows After : Type 0) (wider : full ≡ true → more ≡ true)
    (tells : (reply : List ℕ) → Damage reply → Other reply) (marks : (reply : List ℕ) → Busy reply → Marked reply) (says : Shows → After) where
  pub merges_as : (result : Result (Option (List ℕ)) NoMemory) → MergesAt given o whole old new arm later full Damage Busy Shows result → MergesAt given o whole old new arm later more Other Marked After result
  merges_as (Ok None) m =
      record { takes = tt; said = tt; damaged = tt; busy = tt; failed = tt; stops = m.stops; counts = m.counts; stopped = λ some. tt; done = (m.done.0, says m.done.1); memory = tt; since = m.since; parts = m.parts }
  merges_as (Ok (Some reply)) m = record {
    takes = λ told known n a. elim (m.takes told known n a) [ inl failed ↦ inl failed | inr (inl (is, which)) ↦ inr (inl (wider is, which)) | inr (inr failed) ↦ inr (inr failed) ];
    said = m.said;
    damaged = λ bad. tells reply (m.damaged bad);
    busy = λ is. marks reply (m.busy is);
    failed = m.failed;
    stops = m.stops;
    counts = m.counts;
    stopped = m.stopped;
    done = tt;
    memory = tt;
    since = m.since;
    parts = m.parts;
  }
  merges_as (Err e) m = record { takes = tt; said = tt; damaged = tt; busy = tt; failed = tt; stops = tt; counts = tt; stopped = λ some. tt; done = tt; memory = m.memory; since = m.since; parts = m.parts }

-- a work that was taken up, and what became of it
module _ {F : Type 0} (files_of : F → Option Files) (given : Premise → Type 0) (before : History) (o : AtOpening) (whole : ℕ) (These : List ℕ → Partition → Type 0) (Has : CoreStore F → Work F → Type 0) (has : (store : CoreStore F) (work : Work F) → Has store work → HasParts store work)
    (work : Work F) (taken : WasTaken files_of given before o whole These Has work) (old mid new : Tally) (up : mid ≡ tally old.parts (old.out + 1) old.stops old.levels old.faults) (arm later : ℕ) (more : Bool) (wider : any_greatest work.sources.items ≡ true → more ≡ true) (Marked : List ℕ → Type 0) (Other : Type 0) where
  pub work_merged : (result : Result (Option (List ℕ)) NoMemory)
      → MergesAt given o whole mid new arm later (any_greatest work.sources.items) (TellsOfPart files_of work.table work.schema work.sources.items) Never (WasCarriedOut files_of given before o whole work) result
      → MergesAt given o whole old new arm later more (TellsOfHanded files_of given before o whole These) Marked (WasMerged files_of given before o whole These Has ⊎ Other) result
  work_merged result m =
      merges_after_take given o whole old mid new arm later more (TellsOfHanded files_of given before o whole These) Marked (WasMerged files_of given before o whole These Has ⊎ Other) result up
      (merges_as given o whole mid new arm later (any_greatest work.sources.items) more (TellsOfPart files_of work.table work.schema work.sources.items) (TellsOfHanded files_of given before o whole These) Never Marked
      (WasCarriedOut files_of given before o whole work) (WasMerged files_of given before o whole These Has ⊎ Other) wider
      (λ reply tells. record { work = work; taken = taken_of files_of given before o whole These These (λ t p is. is) Has HasParts has work taken; tells = tells })
      (λ reply never. absurd never) (λ ended. inl (record { work = work; taken = taken; ended = ended })) result m)

-- one merge after others that were done
module _ (given : Premise → Type 0) (o : AtOpening) (whole : ℕ) (old mid new : Tally) (arm here later : ℕ) (Damage Other Busy Marked : List ℕ → Type 0) (Front Last Shows : Type 0) (first : MergesAt given o whole old mid arm here true Damage Busy Front (Ok None))
    (tells : (reply : List ℕ) → Other reply → Damage reply) (marks : (reply : List ℕ) → Marked reply → Busy reply) where
  no_rise : mid.faults ≡ old.faults
  no_rise = let disk = first.counts.calm (λ is. cc) in omega (arith, disk)

  pub merges_then_done : (Front → Last → Shows) → MergesAt given o whole mid new here later true Other Marked Last (Ok None) → MergesAt given o whole old new arm later true Damage Busy Shows (Ok None)
  merges_then_done says m = record {
    takes = tt;
    said = tt;
    damaged = tt;
    busy = tt;
    failed = tt;
    stops = let one = first.stops in let two = m.stops in omega (arith, one, two);
    counts = counts_then (met_with o whole old arm) (met_with o whole mid here) (met_with o whole new later) None first.counts first.since.opened_is m.counts;
    stopped = λ some. tt;
    done = (m.done.0 ∙ first.done.0, says first.done.1 m.done.1);
    memory = tt;
    since = since_then o whole old mid new arm here later first.since m.since;
    parts = m.parts ∙ first.parts;
  }

  pub merges_then_refused : (reply : List ℕ) → MergesAt given o whole mid new here later true Other Marked Last (Ok (Some reply)) → MergesAt given o whole old new arm later true Damage Busy Shows (Ok (Some reply))
  merges_then_refused reply m = record {
    takes = m.takes;
    said = m.said;
    damaged = λ bad. tells reply (m.damaged bad);
    busy = λ is. marks reply (m.busy is);
    failed = λ e. let rose = m.failed e in let calm = first.done.0 in omega (arith, rose, calm);
    stops = let one = first.stops in let two = m.stops in omega (arith, one, two);
    counts = counts_then (met_with o whole old arm) (met_with o whole mid here) (met_with o whole new later) (Some reply) first.counts first.since.opened_is m.counts;
    stopped = λ some. m.stopped (let one = first.stops in omega (arith, some, one));
    done = tt;
    memory = tt;
    since = since_then o whole old mid new arm here later first.since m.since;
    parts = m.parts ∙ first.parts;
  }

  pub merges_then_ended : (e : NoMemory) → MergesAt given o whole mid new here later true Other Marked Last (Err e) → MergesAt given o whole old new arm later true Damage Busy Shows (Err e)
  merges_then_ended e m = record {
    takes = tt;
    said = tt;
    damaged = tt;
    busy = tt;
    failed = tt;
    stops = tt;
    counts = tt;
    stopped = λ some. tt;
    done = tt;
    memory = (m.memory.0 ∙ first.done.0, m.memory.1 ∙ no_rise);
    since = since_then o whole old mid new arm here later first.since m.since;
    parts = m.parts ∙ first.parts;
  }

-- no merge was begun
pub merges_none : (given : Premise → Type 0) (o : AtOpening) (whole : ℕ) (share : Tally) (arm : ℕ) (full : Bool) (Damage Busy : List ℕ → Type 0) (Shows : Type 0) → Shows → MergesAt given o whole share share arm arm full Damage Busy Shows (Ok None)
merges_none given o whole share arm full Damage Busy Shows shows = merges_stay_done given o whole share share arm full Damage Busy Shows refl shows
