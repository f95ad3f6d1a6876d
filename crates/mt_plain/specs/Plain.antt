-- What the plain program accepts at the end of a history, and what it adds to one.
use Rattle.std.specs.Prelude.{◌≡◌, ℕ, ◌+◌, ◌≤◌, false, List, [], ◌∷◌, ◌++◌, All, Option, Some, None, Ok, length, take}
use Rattle.std.specs.List.{Contains}
use Rattle.mt_values.specs.declared.command.Command.{Command}
use Rattle.mt_values.specs.declared.command.Command.TheVariants as command
use Rattle.mt_values.specs.declared.command.Entry.{Entry}
use Rattle.mt_values.specs.declared.statement.SelectText.{SelectText}
use Rattle.mt_values.specs.declared.statement.Statement.TheVariants as statement
use Rattle.mt_values.specs.Script.{Item}
use Rattle.part_history.specs.mt_model.declared.refusal.Refusal.{Refusal}
use Rattle.part_history.specs.mt_model.History.{FewInserts, History, entered, inserts}
use Rattle.part_history.specs.mt_model.Numbers.{last_number}
use Rattle.part_history.specs.mt_model.Outside.{Outside}
use Rattle.part_history.specs.mt_model.Refusals.{refusal_line}
use Rattle.part_history.specs.mt_model.Reply.{create_turn, insert_turn, number_turn, ok_line}
use Rattle.part_history.specs.mt_model.Script.{OwnEntries}
use Rattle.part_history.specs.mt_model.Session.{Takes}

-- an outside without a fault, without a part of the greatest level, and with nobody else who runs
abbrev pub calm : Outside
calm = record { opened = 0; ended = 0; full = false; company = false }

-- why a command is refused at its turn, after so many of its statement's commands; nothing was merged, so a partition has one part an INSERT
abbrev pub unmerged_turn : History → ℕ → Command → Option Refusal
unmerged_turn h accepted (command.Create c) = create_turn c.table h
unmerged_turn h accepted (command.Insert i) = insert_turn (inserts i.table i.partition h) (last_number i.table h) accepted
unmerged_turn h accepted (command.Alter a) = number_turn (last_number a.table h) accepted

-- the history that commands leave, and why one of them was refused
pub record AfterTurns : Type 0 where
  pub history : History
  pub refused : Option Refusal

-- where a turn refuses its command, it and those after it add nothing
abbrev pub unless_turn_refuses : Option Refusal → History → AfterTurns → AfterTurns
unless_turn_refuses (Some why) h rest = record { history = h; refused = Some why }
unless_turn_refuses None h rest = rest

-- what commands leave of a history, each at its turn, after so many of their statement's commands
abbrev pub after_turns : ℕ → List Command → History → AfterTurns
after_turns accepted [] h = record { history = h; refused = None }
after_turns accepted (c ∷ cs) h = unless_turn_refuses (unmerged_turn h accepted c) h (after_turns (accepted + 1) cs (entered h 0 (c ∷ [])))

-- the reply at the end of a history, where a refusal came or none
abbrev pub reply_at : ℕ → Option Refusal → List ℕ
reply_at place None = ok_line place
reply_at place (Some why) = refusal_line why

-- a statement's commands came to their turns and left this history and this reply
pub record TookTurns (commands : List Command) (old new : History) (reply : List ℕ) : Type 0 where
  pub refused : Option Refusal
  pub after : after_turns 0 commands old ≡ record { history = new; refused = refused }
  pub reply_is : reply ≡ reply_at (length new) refused

-- the history stayed or grew, and what was added is session 0's
pub record Grows (old new : History) : Type 0 where
  pub more : History
  pub is : new ≡ old ++ more
  pub own : All (λ (e : Entry). e.session ≡ 0) more

-- the SELECT that a statement is, if it is one
abbrev pub select_of : Item → Option SelectText
select_of (Ok (statement.Select t)) = Some t
select_of item = None

-- in a history that goes on from another one by entries of session 0 alone, and in which no partition has 3000 INSERTs, a statement that is run from
-- the other's end to some place has this reply
pub record IsRepliedIn (g old : History) (item : Item) (to : ℕ) (reply : List ℕ) : Type 0 where
  pub few : FewInserts g
  pub goes_on : take (length old) g ≡ old
  pub own : OwnEntries g (length old)
  pub takes : Takes calm g 0 item (length old) to reply

-- a reply stands in a text from one place to another
pub record StandsFrom (text : List ℕ) (at : ℕ) (reply : List ℕ) (to : ℕ) : Type 0 where
  pub read : take to text ≡ take at text ++ reply
  pub within : to ≤ length text

-- one of these replies stands in a text from one of these places to another
pub record OneStandsFrom (text : List ℕ) (places : List ℕ) (replies : List (List ℕ)) (to : ℕ) : Type 0 where
  pub at : ℕ
  pub reply : List ℕ
  pub begun : Contains places at
  pub one : Contains replies reply
  pub stands : StandsFrom text at reply to
