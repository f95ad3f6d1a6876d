-- What a session may print (docs/definitions-of-runs.md, "Runs").
use Rattle.std.specs.Prelude.{◌≡◌, ◌⊎◌, ℕ, ◌-◌, ◌<◌, ◌≤◌, true, List, [], ◌∷◌, ◌++◌, length, take, drop, Some, None, Ok, Err, slice_get}
use Rattle.mt_values.specs.declared.command.Command.{Command}
use Rattle.mt_values.specs.declared.command.Command.TheVariants as command
use Rattle.mt_values.specs.declared.schema.Schema.{Schema}
use Rattle.mt_values.specs.declared.statement.Statement.{Statement}
use Rattle.mt_values.specs.Script.{Item}
use Rattle.mt_values.specs.declared.statement.Statement.TheVariants as statement
use Rattle.mt_values.specs.declared.statement.OptimizeText.{OptimizeText}
use Rattle.mt_values.specs.declared.statement.SelectText.{SelectText}
use Rattle.mt_model.specs.Answer.{Answer}
use Rattle.mt_model.specs.Commands.{commands_of}
use Rattle.mt_model.specs.declared.refusal.Refusal.{Refusal}
use Rattle.mt_model.specs.Explain.{Explains}
use Rattle.mt_model.specs.History.{History, schema_of, inserts, own}
use Rattle.mt_model.specs.Numbers.{last_number}
use Rattle.mt_model.specs.Outside.{LevelFailed, Outside, PartBusy, ReadOrStageFailed, TurnFailed}
use Rattle.mt_model.specs.Refusals.{refusal_line, refusal_of_cause}
use Rattle.mt_model.specs.declared.query.Query.{Query}
use Rattle.mt_model.specs.Queries.{query_of_select}
use Rattle.mt_model.specs.Reply.{ok_line, rows_reply, create_turn, insert_turn, number_turn}

-- from one place of the history to the same or a later one the session accepted nothing (docs/definitions-of-runs.md, "Turns")
pub record AddsNothing (h : History) (session from to : ℕ) : Type 0 where
  pub later : from ≤ to
  pub there : to ≤ length h
  pub none : own session (take (to - from) (drop from h)) ≡ []

-- from one place to the same or a later one the session accepted these commands, and no others (docs/definitions-of-runs.md, "Turns")
pub record AddsOnly (h : History) (session : ℕ) (commands : List Command) (from to : ℕ) : Type 0 where
  pub later : from ≤ to
  pub there : to ≤ length h
  pub are : own session (take (to - from) (drop from h)) ≡ commands

-- from one place to a later one the session accepted this one command, and its entry is the last of them (docs/definitions-of-runs.md, "Turns")
pub record Adds (h : History) (session : ℕ) (c : Command) (from to : ℕ) : Type 0 where
  pub later : 0 < to
  pub before : AddsNothing h session from (to - 1)
  pub there : slice_get h (to - 1) ≡ Some (record { session = session; command = c })

-- The turn of a command refuses it, after some of the statement's commands were accepted: it is asked of the entries before it. A partition has
-- some number of parts then: merges leave at most one part an INSERT (docs/definitions-of-runs.md, "Turns").
abbrev pub TurnRefuses : History → ℕ → Command → Refusal → Type 0
TurnRefuses h accepted (command.Create c) why = create_turn c.table h ≡ Some why
TurnRefuses h accepted (command.Insert i) why =
    (parts : ℕ) × (parts ≤ inserts i.table i.partition h) × (insert_turn parts (last_number i.table h) accepted ≡ Some why)
TurnRefuses h accepted (command.Alter a) why = number_turn (last_number a.table h) accepted ≡ Some why

-- the turn of a command refuses nothing (docs/definitions-of-runs.md, "Turns")
abbrev pub TurnAllows : History → Command → Type 0
TurnAllows h (command.Create c) = create_turn c.table h ≡ None
TurnAllows h (command.Insert i) =
    (parts : ℕ) × (parts ≤ inserts i.table i.partition h) × (insert_turn parts (last_number i.table h) 0 ≡ None)
TurnAllows h (command.Alter a) = number_turn (last_number a.table h) 0 ≡ None

-- from one place to the same or a later one the session accepted these commands, each in a turn of its own, and the last one's entry is the last (docs/definitions-of-runs.md, "Turns")
abbrev pub Accepts : History → ℕ → List Command → ℕ → ℕ → Type 0
Accepts h session [] from to = from ≡ to
Accepts h session (c ∷ cs) from to =
    (place : ℕ) × TurnAllows (take (place - 1) h) c × Adds h session c from place × Accepts h session cs place to

-- a statement's commands are those that it gives after the entries up to some place, and all of them are accepted from there on (docs/definitions-of-runs.md, "Statements taken")
pub record AcceptsAll (h : History) (session : ℕ) (s : Statement) (from to : ℕ) : Type 0 where
  pub seen : ℕ
  pub commands : List Command
  pub nothing : AddsNothing h session from seen
  pub gives : commands_of (take seen h) s ≡ Ok commands
  pub accepted : Accepts h session commands seen to

-- the first of a statement's commands were accepted, and the rest were not (docs/definitions-of-runs.md, "Statements taken")
pub record StopsAfter (h : History) (session : ℕ) (s : Statement) (from to : ℕ) (done rest : List Command) : Type 0 where
  pub seen : ℕ
  pub place : ℕ
  pub nothing : AddsNothing h session from seen
  pub gives : commands_of (take seen h) s ≡ Ok (done ++ rest)
  pub accepted : Accepts h session done seen place
  pub no_more : AddsNothing h session place to

-- a SELECT's reply at a place answers the history up to it (docs/definitions-of-runs.md, "Statements taken")
pub record Selects (h : History) (s : SelectText) (to : ℕ) (reply : List ℕ) : Type 0 where
  pub schema : Schema
  pub lines : List (List ℕ)
  pub there : schema_of s.table (take to h) ≡ Some schema
  pub answer : Answer (take to h) schema s lines
  pub reply_is : reply ≡ rows_reply lines to

-- refused, and nothing was accepted (docs/definitions-of-runs.md, "Statements taken")
pub record RefusedAs (h : History) (session from to : ℕ) (why : Refusal) (reply : List ℕ) : Type 0 where
  pub line : reply ≡ refusal_line why
  pub nothing : AddsNothing h session from to

-- at the turn of its next command a statement is refused for what the turn asks, or by the outside (docs/definitions-of-runs.md, "Statements taken")
abbrev pub RefusedInTurn : Outside → History → ℕ → Command → List ℕ → Type 0
RefusedInTurn n h accepted next reply =
    ((why : Refusal) × TurnRefuses h accepted next why × (reply ≡ refusal_line why))
    ⊎ (TurnAllows h next × TurnFailed n accepted reply)

-- What a CREATE or an INSERT may be refused for: by its text, its table or its data; by the outside, once it has commands; or in the turn of one
-- of them, once those before it were accepted (docs/definitions-of-runs.md, "Statements taken").
abbrev pub CommandRefused : Outside → History → ℕ → Statement → ℕ → ℕ → List ℕ → Type 0
CommandRefused n h session s from to reply =
    ((why : Refusal) × (commands_of (take to h) s ≡ Err why) × RefusedAs h session from to why reply)
    ⊎ ((commands : List Command) × (commands_of (take to h) s ≡ Ok commands) × (0 < length commands) × AddsNothing h session from to × ReadOrStageFailed n reply)
    ⊎ ((done : List Command) × (next : Command) × (rest : List Command) × StopsAfter h session s from to done (next ∷ rest) × RefusedInTurn n (take to h) (length done) next reply)

-- what a SELECT may be refused for: by its table, columns and literals, or by the outside once they are there (docs/definitions-of-runs.md, "Statements taken")
abbrev pub SelectRefused : Outside → History → ℕ → SelectText → ℕ → ℕ → List ℕ → Type 0
SelectRefused n h session s from to reply =
    ((why : Refusal) × (query_of_select s (take to h) ≡ Err why) × RefusedAs h session from to why reply)
    ⊎ ((query : Query) × (query_of_select s (take to h) ≡ Ok query) × AddsNothing h session from to × ReadOrStageFailed n reply)

-- an EXPLAIN may be refused by its table, columns and literals (docs/definitions-of-runs.md, "Statements taken")
abbrev pub ExplainRefused : History → ℕ → SelectText → ℕ → ℕ → List ℕ → Type 0
ExplainRefused h session s from to reply =
    (why : Refusal) × (query_of_select s (take to h) ≡ Err why) × RefusedAs h session from to why reply

-- what the outside may refuse an OPTIMIZE for: its parts were not read, or what they became was not written; a part that FINAL takes has the greatest level, or
-- is being merged already; or the commit failed or was stopped. It has no command, so none was accepted (docs/definitions-of-runs.md, "Statements taken").
abbrev pub MergeFailed : Outside → OptimizeText → List ℕ → Type 0
MergeFailed n o reply =
    ReadOrStageFailed n reply ⊎ ((o.whole ≡ true) × (LevelFailed n reply ⊎ PartBusy n reply)) ⊎ TurnFailed n 0 reply

-- An OPTIMIZE may have this reply: its table is there, and nothing is accepted; or it is refused, by its table, or by the outside once that is there. Which
-- parts are merged by then no reply tells (docs/definitions-of-runs.md, "Statements taken"; ClickHouse, OPTIMIZE).
abbrev pub TakesOptimize : Outside → History → ℕ → OptimizeText → ℕ → ℕ → List ℕ → Type 0
TakesOptimize n h session o from to reply =
    ((commands_of (take to h) (statement.Optimize o) ≡ Ok []) × AddsNothing h session from to × ((reply ≡ ok_line to) ⊎ MergeFailed n o reply))
    ⊎ ((why : Refusal) × (commands_of (take to h) (statement.Optimize o) ≡ Err why) × RefusedAs h session from to why reply)

-- a CREATE or an INSERT may have this reply: all its commands were accepted, or it is refused (docs/definitions-of-runs.md, "Statements taken")
abbrev pub TakesCommands : Outside → History → ℕ → Statement → ℕ → ℕ → List ℕ → Type 0
TakesCommands n h session s from to reply =
    ((reply ≡ ok_line to) × AcceptsAll h session s from to) ⊎ CommandRefused n h session s from to reply

-- Run from one place to the same or a later one, a statement may have this reply. What the disk tells is never damaged, so no reply says so (docs/definitions-of-runs.md, "Statements taken").
abbrev pub TakesStatement : Outside → History → ℕ → Statement → ℕ → ℕ → List ℕ → Type 0
TakesStatement n h session (statement.Create c) from to reply = TakesCommands n h session (statement.Create c) from to reply
TakesStatement n h session (statement.Insert i) from to reply = TakesCommands n h session (statement.Insert i) from to reply
TakesStatement n h session (statement.Select s) from to reply =
    (Selects h s to reply × AddsNothing h session from to) ⊎ SelectRefused n h session s from to reply
TakesStatement n h session (statement.Explain s) from to reply =
    (Explains (take to h) s to reply × AddsNothing h session from to) ⊎ ExplainRefused h session s from to reply
TakesStatement n h session (statement.Optimize o) from to reply = TakesOptimize n h session o from to reply

-- the same of a text, which is a statement or is refused as it is read (docs/definitions-of-runs.md, "Statements taken")
abbrev pub Takes : Outside → History → ℕ → Item → ℕ → ℕ → List ℕ → Type 0
Takes n h session (Ok s) from to reply = TakesStatement n h session s from to reply
Takes n h session (Err why) from to reply = RefusedAs h session from to (refusal_of_cause why) reply

-- A statement that ended the run without a reply, as where memory ran out: its commands that were accepted before stand (docs/definitions-of-runs.md, "Statements taken").
abbrev pub Unanswered : History → ℕ → Item → ℕ → ℕ → Type 0
Unanswered h session (Ok s) from to =
    AddsNothing h session from to ⊎ ((done : List Command) × (rest : List Command) × StopsAfter h session s from to done rest)
Unanswered h session (Err why) from to = AddsNothing h session from to

-- The session ran a statement from one place to another, and this is the next of its commands: those before it were accepted, and it was not (docs/definitions-of-runs.md, "Statements taken").
abbrev pub IsNextCommand : History → ℕ → Item → ℕ → ℕ → Command → Type 0
IsNextCommand h session (Ok s) from to c = (done : List Command) × (rest : List Command) × StopsAfter h session s from to done (c ∷ rest)
IsNextCommand h session (Err why) from to c = ⊥

-- Run one after another, each of the statements had the first of its commands accepted, or none (docs/definitions-of-runs.md, "Statements taken").
abbrev pub SessionGives : History → ℕ → List Item → ℕ → ℕ → Type 0
SessionGives h session [] from to = from ≡ to
SessionGives h session (s ∷ ss) from to = (place : ℕ) × Unanswered h session s from place × SessionGives h session ss place to

-- Run one after another from one place to the same or a later one, the statements may print this.
abbrev pub SessionRun : Outside → History → ℕ → List Item → ℕ → ℕ → List ℕ → Type 0
SessionRun n h session [] from to out = (from ≡ to) × (out ≡ [])
SessionRun n h session (s ∷ ss) from to out =
    (place : ℕ) × (reply rest : List ℕ) × Takes n h session s from place reply × SessionRun n h session ss place to rest × (out ≡ reply ++ rest)

-- The same, reply by reply.
abbrev pub SessionReplies : Outside → History → ℕ → List Item → ℕ → ℕ → List (List ℕ) → Type 0
SessionReplies n h session [] from to [] = from ≡ to
SessionReplies n h session (s ∷ ss) from to (reply ∷ replies) = (place : ℕ) × Takes n h session s from place reply × SessionReplies n h session ss place to replies
SessionReplies n h session [] from to (reply ∷ replies) = ⊥
SessionReplies n h session (s ∷ ss) from to [] = ⊥
