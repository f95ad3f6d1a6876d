-- What statements of a session come to, one after another, by what its seat, its share and its arm know (docs/definitions-of-runs.md, "Runs").
use Rattle.std.specs.Prelude.{◌≡◌, ◌⊎◌, ◌+◌, ◌<◌, ℕ, Bool, true, false, List, [], ◌∷◌, ◌++◌, length, take, Option, Some, Result, Ok, Err, IfOk}
use Rattle.std.specs.List.{list_any}
use Rattle.mt_base.specs.declared.memory.NoMemory.{NoMemory}
use Rattle.mt_values.specs.declared.command.Command.{Command}
use Rattle.mt_values.specs.declared.command.Entry.{Entry}
use Rattle.mt_values.specs.Script.{Item}
use Rattle.mt_outside.specs.Files.{Files}
use Rattle.replies.specs.mt_model.History.{History}
use Rattle.replies.specs.mt_model.Outside.{Outside}
use Rattle.replies.specs.mt_model.Refusals.{code_of, is_damage}
use Rattle.replies.specs.mt_model.Session.{IsNextCommand, SessionReplies, Unanswered}
use Rattle.replies.specs.Foreseen.{AgreesWith, is_unsettled}
use Rattle.merge_workers.specs.shared_store.durable_commit.Commits.{entry_of}
use Rattle.merge_workers.specs.shared_store.history_seat.Views.{Begins, own}
use Rattle.merge_workers.specs.shared_store.Sharing.{AtOpening}
use Rattle.merge_workers.specs.shared_store.Stood.{Premise, is_held, is_listed, is_told}
use Rattle.session.specs.Answers.{AccountsAt, AnswersAt, Having, ShowsAt, StaysSession, StaysStopped, TellsAt, TriesAt, TriesNone, met_by, place_of, stops_of}

-- What one statement comes to: its reply, or none, what accounts for that and what it shows; and what the session has then (docs/definitions-of-runs.md, "Statements taken").
pub record RanOne {F : Type 0} (files_of : F → Option Files) (given : Premise → Type 0) (before : History) (o : AtOpening) (whole : ℕ) (statement : Item) (old new : Having) (result : Result (List ℕ) NoMemory) : Type 0 where
  pub answers : AnswersAt given before o whole statement old new result
  pub accounts : AccountsAt o whole old new (TellsAt files_of given before o whole new.seat.list statement) result
  pub shows : IfOk result (ShowsAt files_of given before o whole new.seat.list statement)
  pub stays : StaysSession o whole old new
  pub stopped : StaysStopped old new result
  pub tries : TriesAt given before statement old new result

-- Statements ran one after another, each with its reply.
abbrev pub RanEach : {F : Type 0} → (F → Option Files) → (Premise → Type 0) → History → AtOpening → ℕ → List Item → List (List ℕ) → Having → Having → Type 0
RanEach files_of given before o whole [] [] old new = new ≡ old
RanEach files_of given before o whole [] (reply ∷ replies) old new = ⊥
RanEach files_of given before o whole (statement ∷ statements) [] old new = ⊥
RanEach files_of given before o whole (statement ∷ statements) (reply ∷ replies) old new =
    (mid : Having) × RanOne files_of given before o whole statement old mid (Ok reply) × RanEach files_of given before o whole statements replies mid new

-- the same, and then one more ran, in which memory ran out
abbrev pub RanOut : {F : Type 0} → (F → Option Files) → (Premise → Type 0) → History → AtOpening → ℕ → List Item → Item → List (List ℕ) → Having → Having → Type 0
RanOut files_of given before o whole statements last replies old new =
    (mid : Having) × RanEach files_of given before o whole statements replies old mid × ((why : NoMemory) × RanOne files_of given before o whole last mid new (Err why))

-- What a session's statements come to: each has its reply; or memory ran out, before the first or in one of them, and the rest did not run.
abbrev pub RunsSession : {F : Type 0} → (F → Option Files) → (Premise → Type 0) → History → AtOpening → ℕ → List Item → List (List ℕ) → Bool → Having → Having → Type 0
RunsSession files_of given before o whole statements replies false old new = RanEach files_of given before o whole statements replies old new
RunsSession files_of given before o whole statements replies true old new =
    ((replies ≡ []) × (new ≡ old))
    ⊎ ((ran rest : List Item) × (last : Item) × (statements ≡ ran ++ last ∷ rest) × RanOut files_of given before o whole ran last replies old new)

-- ---- what follows for all of them together

-- how many stops replies tell of
abbrev pub stops_told : List (List ℕ) → ℕ
stops_told [] = 0
stops_told (reply ∷ replies) = stops_of (code_of reply) + stops_told replies

-- The statements may have had these replies one after another, over the history that the session knows then, from where it stood to a place, whatever the outside
-- comes to that agrees with what it has met. All this is so far as the premises held as the root was opened.
abbrev pub RanTo : (Premise → Type 0) → History → AtOpening → ℕ → List Item → List (List ℕ) → Having → Having → ℕ → Type 0
RanTo given before o whole statements replies old new place =
    given is_told → given is_listed → (n : Outside) → AgreesWith (met_by o whole new) n
    → SessionReplies n (before ++ new.seat.list) old.seat.number statements (place_of before old.seat) place replies

-- They ran so far as to a front of the list that the session knows, and nothing of the session's own was accepted after that.
pub record StandsStill (given : Premise → Type 0) (before : History) (o : AtOpening) (whole : ℕ) (statements : List Item) (replies : List (List ℕ)) (old new : Having) : Type 0 where
  pub list : History
  pub begins : Begins list new.seat.list
  pub own_is : own old.seat.number new.seat.list ≡ own old.seat.number list
  pub ran : RanTo given before o whole statements replies old new (length before + length list)

-- The entry that a session tried last: the next command of one of its statements, those before which ran with their replies. It was not accepted, and nothing of the session's own was
-- after it. Where the statement has a reply, this says that its commit failed; else the statement is the last that ran, and no stop was counted.
pub record IsTried (given : Premise → Type 0) (before : History) (o : AtOpening) (whole : ℕ) (statements : List Item) (replies : List (List ℕ)) (old new : Having) (e : Entry) : Type 0 where
  pub command : Command
  pub entry_is : e ≡ entry_of old.seat.number command
  pub front : List Item
  pub said : Item
  pub after : List Item
  pub split : statements ≡ front ++ said ∷ after
  pub answers : List (List ℕ)
  pub many : length answers ≡ length front
  pub first : History
  pub ran : RanTo given before o whole front answers old new (length before + length first)
  pub list : History
  pub begins : Begins list new.seat.list
  pub own_is : own old.seat.number new.seat.list ≡ own old.seat.number list
  pub next : given is_told → given is_listed → IsNextCommand (before ++ new.seat.list) old.seat.number said (length before + length first) (length before + length list) command
  pub says : ((replies ≡ answers) × (new.share.stops ≡ 0)) ⊎ ((reply : List ℕ) × (more : List (List ℕ)) × (replies ≡ answers ++ reply ∷ more) × (is_unsettled reply ≡ true))

-- What was tried last stays so, where nothing of the session's own was accepted; or nothing is tried; or it is the next command of one of the statements.
abbrev pub TriedLast : (Premise → Type 0) → History → AtOpening → ℕ → List Item → List (List ℕ) → Having → Having → Type 0
TriedLast given before o whole statements replies old new =
    TriesNone old new ⊎ ((e : Entry) × (new.seat.tried ≡ Some e) × IsTried given before o whole statements replies old new e)

-- What follows where statements ran one after another, each with a reply. The share has counted the stops that they tell of. After a reply which says that a commit failed, nothing is
-- accepted, and no later reply says it. What was tried last is what was before, or the next command of one of them. None tells of damage where each part held rows as the root was opened.
pub record HasRun (given : Premise → Type 0) (before : History) (o : AtOpening) (whole : ℕ) (statements : List Item) (replies : List (List ℕ)) (old new : Having) : Type 0 where
  pub each : RanTo given before o whole statements replies old new (place_of before new.seat)
  pub many : length replies ≡ length statements
  pub stays : StaysSession o whole old new
  pub stops : new.share.stops ≡ old.share.stops + stops_told replies
  pub stopped : (front more : List (List ℕ)) (reply : List ℕ) → replies ≡ front ++ reply ∷ more → is_unsettled reply ≡ true
      → StandsStill given before o whole (take (length front + 1) statements) (front ++ reply ∷ []) old new × (list_any is_unsettled more ≡ false)
  pub tried : TriedLast given before o whole statements replies old new
  pub sound : given is_told → given is_held → list_any is_damage replies ≡ false

-- What follows where a statement after them had no reply: from a place on, where the session stood, the first of its commands were accepted, or none.
abbrev pub EndsRun : (Premise → Type 0) → History → AtOpening → ℕ → List Item → Item → List (List ℕ) → Having → Having → Type 0
EndsRun given before o whole statements last replies old new =
    (mid : Having) × HasRun given before o whole statements replies old mid × StaysSession o whole mid new
    × (0 < mid.share.stops → new.seat.mine ≡ mid.seat.mine)
    × TriedLast given before o whole (statements ++ last ∷ []) replies old new
    × (given is_told → given is_listed → Unanswered (before ++ new.seat.list) old.seat.number last (place_of before mid.seat) (place_of before new.seat))
