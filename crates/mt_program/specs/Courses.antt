-- Statements that ran, and their replies (docs/definitions-of-runs.md, "Runs").
use Rattle.std.specs.Prelude.{◌≡◌, ◌⊎◌, ◌+◌, ◌<◌, ◌||◌, ℕ, Bool, false, true, List, [], ◌∷◌, ◌++◌, length, take, slice_get, Option, Some, None}
use Rattle.std.specs.List.{concat, list_any}
use Rattle.mt_values.specs.declared.command.Command.{Command}
use Rattle.mt_values.specs.Annals.{Told}
pub use Rattle.mt_values.specs.Script.{Item}
use Rattle.mt_outside.specs.Disk as root
use Rattle.session.specs.mt_model.History.{History}
use Rattle.session.specs.mt_model.Outside.{Outside}
use Rattle.session.specs.mt_model.Refusals.{is_refusal, is_damage}
use Rattle.session.specs.mt_model.Script.{IsPrefix, OwnEntries}
use Rattle.session.specs.mt_model.Session.{AddsNothing, IsNextCommand, SessionReplies, Unanswered}
use Rattle.root_log.specs.root_store.Soundness.{RootStands}
use Rattle.root_log.specs.durable_commit.Commits.{entry_of}
use Rattle.session.specs.replies.Foreseen.{history, is_unsettled}
use Rattle.session.specs.replies.declared.tally.Tally.{Tally}
use Rattle.session.specs.Answers.{unsettles}

-- The statements that ran, in order, with their replies, and the one after them where it ran without a reply.
pub record Course : Type 0 where
  pub ran : List Item
  pub replies : List (List ℕ)
  pub unanswered : Option Item

-- the course of statements that ran with these replies, and of the one after them where it ran without a reply
abbrev pub course_of : List Item → List (List ℕ) → Option Item → Course
course_of ran replies last = record { ran = ran; replies = replies; unanswered = last }

-- every statement that ran
abbrev pub with_unanswered : List Item → Option Item → List Item
with_unanswered ran None = ran
with_unanswered ran (Some last) = ran ++ last ∷ []

abbrev pub started : Course → List Item
started course = with_unanswered course.ran course.unanswered

-- the statement without a reply takes the history from one place to another
abbrev pub GoesUnanswered : History → Option Item → ℕ → ℕ → Type 0
GoesUnanswered h None from to = from ≡ to
GoesUnanswered h (Some last) from to = Unanswered h 0 last from to

-- After a reply which says that a commit failed, of a command or of a merge, nothing more is accepted: the statements up to this one run to the
-- end of the history. And no later reply says it.
abbrev pub AreStopped : Outside → History → ℕ → List Item → List (List ℕ) → Type 0
AreStopped n h base ran replies =
    (front more : List (List ℕ)) (reply : List ℕ) → replies ≡ front ++ reply ∷ more → is_unsettled reply ≡ true
    → SessionReplies n h 0 (take (length front + 1) ran) base (length h) (front ++ reply ∷ []) × (list_any is_unsettled more ≡ false)

-- The statements ran from a place of the history on, each with a reply that it may have. Each entry past the place is theirs, and after a commit
-- that failed there is none.
pub record RunOf (n : Outside) (h : History) (base : ℕ) (course : Course) : Type 0 where
  pub place : ℕ
  pub each : SessionReplies n h 0 course.ran base place course.replies
  pub stop : ℕ
  pub last : GoesUnanswered h course.unanswered place stop
  pub nothing_else : AddsNothing h 0 stop (length h)
  pub sessions : OwnEntries h base
  pub stopped : AreStopped n h base course.ran course.replies

-- The next command of the statement whose reply says that its commit failed, or of the one that ran without a reply. Those before it ran with
-- their replies up to some place, and it ran from there to the end of the history.
pub record IsNextOf (n : Outside) (h : History) (base : ℕ) (course : Course) (c : Command) : Type 0 where
  pub before : List Item
  pub said : Item
  pub after : List Item
  pub split : started course ≡ before ++ said ∷ after
  pub place : ℕ
  pub ran : SessionReplies n h 0 before base place (take (length before) course.replies)
  pub next : IsNextCommand h 0 said place (length h) c
  pub says : (reply : List ℕ) → slice_get course.replies (length before) ≡ Some reply → is_unsettled reply ≡ true

-- What is begun after statements ran: what was begun before, where nothing was accepted; nothing, where something was; or the next command of
-- the statement whose commit failed, or that has no reply. A merge begins nothing.
abbrev pub IsBegunBy : Outside → Told → Told → Course → Type 0
IsBegunBy n first now course =
    ((now.begun ≡ first.begun) × (length now.list ≡ length first.list))
    ⊎ ((now.begun ≡ None) × (length first.list < length now.list))
    ⊎ ((c : Command) × (now.begun ≡ Some (entry_of 0 c)) × IsNextOf n (history now) (length first.list) course c)

-- all replies but the last were written, and a front of that
pub record IsCut (replies : List (List ℕ)) (out : List ℕ) : Type 0 where
  pub whole : List (List ℕ)
  pub last : List ℕ
  pub part : List ℕ
  pub replies_are : replies ≡ whole ++ last ∷ []
  pub front : IsPrefix part last
  pub out_is : out ≡ concat whole ++ part

-- whether some reply refuses its statement for what the script says, and whether some reply tells of damage
pub record TalliesReplies (t : Tally) (replies : List (List ℕ)) : Type 0 where
  pub refusals : t.refused ≡ list_any is_refusal replies
  pub damages : t.damaged ≡ list_any is_damage replies

-- some statement has a reply which says that the commit of a command failed
abbrev pub any_unsettles : List Item → List (List ℕ) → Bool
any_unsettles [] replies = false
any_unsettles (s ∷ ss) [] = false
any_unsettles (s ∷ ss) (reply ∷ replies) = unsettles s reply || any_unsettles ss replies

-- where none says it, the root stands for the history
abbrev pub AreSettled : Course → Option root.Told → History → Type 0
AreSettled course root h = any_unsettles course.ran course.replies ≡ false → RootStands root h
