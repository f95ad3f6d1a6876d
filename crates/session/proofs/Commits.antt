-- What a CREATE and a block of an INSERT come to in the turn of a session.
use Rattle.std.proofs.Common.{◌≡◌, ◌==◌, ℕ, ◌+◌, ◌-◌, ◌<◌, ◌≤◌, true, List, [], ◌∷◌, ◌++◌, length, take, Option, Some, None, Result, Ok, Err, IfOk, IfSome, IsErr, inl, inr, refl, sym, ap, ◌∙◌, subst, arith, append_assoc, eqb-true, length-append}
use Rattle.mt_base.specs.declared.memory.NoMemory.{NoMemory}
use Rattle.mt_values.specs.declared.command.Command.{Command}
use Rattle.mt_values.specs.declared.command.Command.TheVariants as command
use Rattle.mt_values.specs.declared.command.Entry.{Entry}
use Rattle.mt_values.specs.declared.schema.Schema.{Schema}
use Rattle.mt_values.specs.declared.statement.CreateText.{CreateText}
use Rattle.mt_values.specs.Grid.{Grid}
use Rattle.mt_values.specs.declared.statement.Statement.TheVariants as statement
use Rattle.mt_outside.specs.Files.{Files}
use Rattle.replies.specs.mt_model.History.{History}
use Rattle.replies.specs.mt_model.Outside.{Outside, TurnFailed}
use Rattle.replies.specs.mt_model.Reply.{ok_line, schema_of_text}
use Rattle.replies.specs.mt_model.Session.{AddsNothing, RefusedInTurn, TurnAllows}
use Rattle.replies.specs.Foreseen.{AgreesWith}
use Rattle.merge_workers.specs.shared_store.durable_commit.declared.causes.Refused.{Refused}
use Rattle.merge_workers.specs.shared_store.durable_commit.Commits.{entry_of, stopped_by}
use Rattle.merge_workers.specs.shared_store.history_seat.declared.view.View.{View}
use Rattle.merge_workers.specs.shared_store.history_seat.Turns.{Added, AddsNone}
use Rattle.merge_workers.specs.shared_store.history_seat.Views.{Begins}
use Rattle.merge_workers.specs.shared_store.root_commits.declared.commits.Returned.{Returned}
use Rattle.merge_workers.specs.shared_store.root_commits.Commits.{IsCause, insert_of_block, partition_of_block}
use Rattle.merge_workers.specs.shared_store.root_store.declared.store.CoreStore.{CoreStore}
use Rattle.merge_workers.specs.shared_store.root_store.declared.store.Table.{Table}
use Rattle.merge_workers.specs.shared_store.root_store.Stores.{table_at}
use Rattle.merge_workers.specs.shared_store.Handed.{insert_there, partition_by}
use Rattle.merge_workers.specs.shared_store.Sharing.{AtOpening, schema_there}
use Rattle.merge_workers.specs.shared_store.Stood.{Premise}
use Rattle.merge_workers.specs.shared_store.Tallies.{Tally, stops_in, tally}
use Rattle.merge_workers.specs.shared_store.Turns.{AtTurn, HasTurn, ShowsCreate, ShowsPart, left_of}
use Rattle.session.specs.Answers.{AnswersAt, CountsAt, Having, KnowsOwn, TurnAt, having, met_with, place_of}
use Rattle.session.specs.declared.turns.TurnReply.{TurnReply}
use Rattle.session.specs.declared.turns.TurnReply.TheVariants.{Accepted, Refused as Declined}
use Rattle.session.specs.Stops.{IsLineOf}
use Rattle.merge_workers.proofs.SharedStoreSchemas.{table_of, there_begins}
use Rattle.session.proofs.Creating.{create_gives, created}
use Rattle.session.proofs.Inserting.{inserted}
use Rattle.session.proofs.Answering.{answers_line}
use Rattle.session.proofs.Counting.{counts_refused, stop_shown}
use Rattle.session.proofs.OnceStopped.{create_unrisen, part_unrisen}
use Rattle.session.proofs.Stopping.{create_stop, part_stop}
use Rattle.session.proofs.TurnReplies.{block_allowed, block_not_added, create_allowed, create_not_done, first_refused, front_of, one_accepted, turn_failed}
use Rattle.session.proofs.Seats.{added_one, looked_nothing}

-- ---- places

module _ (before found : History) (v w : View) where
  -- after a turn that added an entry, the rest stands before it
  module _ (e : Entry) (a : Added v found e w) where
    one_more : length w.list ≡ length found + 1
    one_more = ap length a.list ∙ length-append found (e ∷ [])

    pub added_end : place_of before w ≡ length (before ++ found) + 1
    added_end = let more = one_more in let both = length-append before found in omega (arith, more, both)

    pub added_whole : (before ++ found) ++ e ∷ [] ≡ before ++ w.list
    added_whole = append_assoc before found (e ∷ []) ∙ ap (λ (l : History). before ++ l) (sym a.list)

    pub added_front : take (place_of before w - 1) (before ++ w.list) ≡ before ++ found
    added_front = ap (take (place_of before w - 1)) (sym added_whole) ∙ front_of (before ++ found) e (place_of before w) added_end

    pub added_begin : place_of before v ≤ length (before ++ w.list)
    added_begin =
        let more = one_more in
        let all = length-append before w.list in
        let rest = length-append v.list a.begins.0 in
        let same : length (v.list ++ a.begins.0) ≡ length found = ap length a.begins.1 in
        omega (arith, more, all, rest, same)

  -- after a turn that added nothing the history is what it found
  module _ {last : Option Entry} (l : AddsNone v found last w) where
    pub looked_end : length (before ++ w.list) ≡ place_of before w
    looked_end = length-append before w.list

    pub looked_at : KnowsOwn v → AddsNothing (before ++ w.list) v.number (place_of before v) (place_of before w)
    looked_at knows = subst (λ (x : History). AddsNothing (before ++ x) v.number (place_of before v) (length before + length x)) (sym l.list) (looked_nothing before found v w l knows)

-- ---- the outside

-- the store was stopped or the disk failed in a turn, which the share has counted
module _ {F : Type 0} (files_of : F → Option Files) (given : Premise → Type 0) (before : History) (o : AtOpening) (found : History) (whole : ℕ) (old new : Tally) (Shows : CoreStore F → ℕ → Type 0) (t : AtTurn files_of given before o found whole old Shows)
    (cause : Refused) (levels rise : ℕ) (counted : new ≡ tally old.parts old.out (old.stops + stops_in (Some cause)) levels (old.faults + rise)) where
  has_stop : 0 < stops_in (Some cause) → 0 < new.stops
  has_stop some = let is = ap (λ (x : Tally). x.stops) counted in omega (arith, is, some)

  knows_count : (new.parts == whole) ≡ true → t.failed ≤ o.shared + new.faults
  knows_count is =
      let all = eqb-true new.parts whole is in
      let parts = ap (λ (x : Tally). x.parts) counted in
      let faults = ap (λ (x : Tally). x.faults) counted in
      let count = t.all (sym parts ∙ all) in
      omega (arith, faults, count)

  pub outside_failed : (later : ℕ) (n : Outside) → AgreesWith (met_with o whole new later) n → (accepted : ℕ) (table reply : List ℕ) → IsLineOf accepted table cause reply → IsCause (stopped_by t.store.opened t.failed) (Some cause) → TurnFailed n accepted reply
  outside_failed later n a accepted table reply line is =
      turn_failed (met_with o whole new later) n a t.failed accepted table cause reply line has_stop knows_count (subst (λ (x : ℕ). IsCause (stopped_by x t.failed) (Some cause)) t.opened_is is)

-- ---- a CREATE

module _ {F : Type 0} (files_of : F → Option Files) (given : Premise → Type 0) (before : History) (o : AtOpening) (whole : ℕ) (found : History) (text : CreateText) (schema : Schema) (says : schema_of_text text ≡ Ok schema)
    (v w : View) (old new : Tally) (arm later calls : ℕ) (knows : KnowsOwn v) where
  abbrev made : Command
  made = created text schema says

  abbrev Turns : {S : Type 0} → Result ℕ (Returned S) → Type 0
  Turns {S} result = HasTurn {F = F} {S = S} files_of given before o found whole calls (entry_of v.number made) (ShowsCreate text.table) v w old new result

  abbrev Answered : Result (List ℕ) NoMemory → Type 0
  Answered line = AnswersAt given before o whole (Ok (statement.Create text)) (having v old arm) (having w new later) line

  -- the same turn, by a name that equals the table's
  pub create_turn_as : {S : Type 0} (table : List ℕ) → table ≡ text.table → (result : Result ℕ (Returned S))
      → HasTurn {F = F} {S = S} files_of given before o found whole calls (entry_of v.number (command.Create (record { table = table; schema = schema }))) (ShowsCreate table) v w old new result → Turns result
  create_turn_as {S} table same result turn =
      subst (λ (t : List ℕ). HasTurn {F = F} {S = S} files_of given before o found whole calls (entry_of v.number (command.Create (record { table = t; schema = schema }))) (ShowsCreate t) v w old new result) same turn

  pub create_answered : {S : Type 0} (x : ℕ) → Turns {S = S} (Ok x) → (reply : List ℕ) → reply ≡ ok_line x → Answered (Ok reply)
  create_answered x turn reply ok = λ told known n a.
      let e = entry_of v.number made in
      let added : Added v found e w = turn.seat.0 in
      let t = turn.turn.turn in
      let allows = create_allowed files_of (before ++ found) t.store (t.stands told known) t.failed text schema says t.shows in
      one_accepted n (before ++ w.list) (before ++ found) v.number (place_of before v) (place_of before w) (statement.Create text) made reply (added_front before found v w e added) (added_begin before found v w e added)
      (create_gives text schema says) allows (added_one before found v w e refl added knows) (ok ∙ ap ok_line turn.seat.1)

  module _ {S : Type 0} (r : Returned S) (turn : Turns (Err r)) where
    pub create_refused : (line : Result (List ℕ) NoMemory) → IfOk line (IsLineOf 0 text.table r.cause) → Answered line
    create_refused line said =
        let l : AddsNone v found (left_of r.back (entry_of v.number made) v.tried) w = turn.seat in
        let t = turn.turn.turn in
        let nothing = looked_at before found v w l knows in
        answers_line given before o whole (Ok (statement.Create text)) (having v old arm) (having w new later) line (IsLineOf 0 text.table r.cause) said
        (λ reply is told known n a.
        let refuses : RefusedInTurn n (before ++ found) 0 made reply =
        create_not_done files_of (before ++ found) t.store (t.stands told known) t.failed n 0 r.cause reply (outside_failed files_of given before o found whole old new _ t r.cause _ _ turn.turn.counted.counted later n a 0 text.table reply is) text schema says is t.shows in
        first_refused n (before ++ w.list) v.number (place_of before v) (place_of before w) (looked_end before found v w l) nothing (statement.Create text) reply made [] (create_gives text schema says (before ++ w.list))
        (subst (λ (x : History). RefusedInTurn n (before ++ x) 0 made reply) (sym l.list) refuses))
        (inl nothing)

    -- what the reply tells of counts
    pub create_counts : calls ≡ 0 → (reply : List ℕ) → IsLineOf 0 text.table r.cause reply → CountsAt (met_with o whole old arm) (met_with o whole new later) (Some reply)
    create_counts none reply line =
        let t = turn.turn.turn in
        counts_refused files_of given before o found whole calls old.out none r.cause (ShowsCreate text.table (Some r.cause)) old new turn.turn arm later
        (λ first count is. stop_shown o.failed t.store.opened t.failed r.cause t.opened_is (create_stop t.store text.table t.failed r.cause first count is t.shows) first count is)
        (create_unrisen files_of given before o found whole old (ShowsCreate text.table (Some r.cause)) t text.table r.cause t.shows) 0 text.table reply line

-- ---- a block

module _ {F : Type 0} (files_of : F → Option Files) (given : Premise → Type 0) (before : History) (o : AtOpening) (whole : ℕ) (found : History) (table : List ℕ) (schema : Schema) (block : Grid) (accepted : ℕ)
    (v w : View) (old new : Tally) (arm later calls : ℕ) (there : schema_there o.tables v.list table ≡ Some schema) where
  abbrev added : Command
  added = inserted schema table block

  -- the command that its entry has
  pub command_is : insert_there o.tables v.list table block ≡ added
  command_is = ap (λ (x : Option Schema). insert_of_block table (partition_by x block) block) there

  abbrev Enters : {S : Type 0} → Result ℕ (Returned S) → Type 0
  Enters {S} result = HasTurn {F = F} {S = S} files_of given before o found whole calls (entry_of v.number (insert_there o.tables v.list table block)) (ShowsPart table block) v w old new result

  abbrev Comes : Result TurnReply NoMemory → Type 0
  Comes result = TurnAt given before o whole added accepted (having v old arm) (having w new later) result

  -- the table is there, with the same schema
  kept_at : (cause : Option Refused) → Begins v.list found → (t : AtTurn files_of given before o found whole old (ShowsPart table block cause)) → (m : Table) × (table_at t.store table ≡ Some m) × (m.schema ≡ schema)
  kept_at cause begins t = table_of t.store table schema (t.fits.schemas table ∙ there_begins o.tables v.list found table schema begins there)

  pub block_accepted : {S : Type 0} (x : ℕ) → Enters {S = S} (Ok x) → (reply : List ℕ) → reply ≡ ok_line x → Comes (Ok (Accepted reply))
  block_accepted x turn reply ok =
      let t = turn.turn.turn in
      let a : Added v found (entry_of v.number added) w = subst (λ (c : Command). Added v found (entry_of v.number c) w) command_is turn.seat.0 in
      let m = kept_at None a.begins t in (
        found,
        a,
        ok ∙ ap ok_line turn.seat.1,
        λ told known.
            subst (λ (s : Schema). TurnAllows (before ++ found) (inserted s table block)) m.2 (block_allowed files_of (before ++ found) t.store (t.stands told known) t.failed table m.0 m.1 block (t.shows m.0 m.1)),
      )

  module _ {S : Type 0} (r : Returned S) (turn : Enters (Err r)) where
    pub block_refused : (reply : List ℕ) → IsLineOf accepted table r.cause reply → Comes (Ok (Declined reply))
    block_refused reply line =
        let last = left_of r.back (entry_of v.number (insert_there o.tables v.list table block)) v.tried in
        let l : AddsNone v found last w = turn.seat in
        let t = turn.turn.turn in
        let m = kept_at (Some r.cause) l.begins t in (
          found,
          last,
          l,
          λ told known n a.
              subst (λ (s : Schema). RefusedInTurn n (before ++ found) accepted (inserted s table block) reply) m.2
              (block_not_added files_of (before ++ found) t.store (t.stands told known) t.failed n accepted r.cause reply (outside_failed files_of given before o found whole old new _ t r.cause _ _ turn.turn.counted.counted later n a accepted table reply line) table m.0 m.1 block line (t.shows m.0 m.1)),
        )

    -- what the reply tells of counts
    pub block_counts : calls ≡ 0 → (reply : List ℕ) → IsLineOf accepted table r.cause reply → CountsAt (met_with o whole old arm) (met_with o whole new later) (Some reply)
    block_counts none reply line =
        let l : AddsNone v found (left_of r.back (entry_of v.number (insert_there o.tables v.list table block)) v.tried) w = turn.seat in
        let t = turn.turn.turn in
        let m = kept_at (Some r.cause) l.begins t in
        counts_refused files_of given before o found whole calls old.out none r.cause (ShowsPart table block (Some r.cause)) old new turn.turn arm later
        (λ first count is. stop_shown o.failed t.store.opened t.failed r.cause t.opened_is (part_stop t.store table t.failed r.cause first count is (partition_of_block m.0.schema block) m.0.drawn (t.shows m.0 m.1)) first count is)
        (part_unrisen files_of given before o found whole old (ShowsPart table block (Some r.cause)) t table block m.0 m.1 r.cause t.shows) accepted table reply line

-- memory ran out in a turn
pub turn_ended : (given : Premise → Type 0) (before : History) (o : AtOpening) (whole : ℕ) (c : Command) (accepted : ℕ) (old new : Having) (found : History) (last : Option Entry) → AddsNone old.seat found last new.seat → (result : Result TurnReply NoMemory) → IsErr result
    → TurnAt given before o whole c accepted old new result
turn_ended given before o whole c accepted old new found last l (Ok x) is = cc
turn_ended given before o whole c accepted old new found last l (Err e) is = inr (found, last, l)

-- what comes back had no fault
pub back_calm : {S : Type 0} (count : S → ℕ) (sealed : S) (back : Option S) → IfSome back (λ s. s ≡ sealed) → count sealed ≡ 0 → IfSome back (λ s. count s ≡ 0)
back_calm count sealed None same none = tt
back_calm count sealed (Some s) same none = ap count same ∙ none
