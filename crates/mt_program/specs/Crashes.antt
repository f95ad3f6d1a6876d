-- What a run leaves for a crash, and what it did to the annals (docs/crashes.md, "What a run leaves").
use Rattle.std.specs.Prelude.{◌≡◌, ◌⊎◌, ℕ, List, ◌∷◌, ◌++◌, length, All, Option, None, Some}
use Rattle.mt_values.specs.declared.annals.Noted.{Noted}
use Rattle.mt_values.specs.declared.command.Command.{Command}
use Rattle.mt_values.specs.Annals.{Told}
use Rattle.mt_values.specs.Script.{statements_of}
use Rattle.session.specs.mt_model.History.{History}
use Rattle.session.specs.mt_model.Session.{IsNextCommand, SessionGives}
use Rattle.root_log.specs.durable_commit.Commits.{entry_of}
use Rattle.root_log.specs.root_store.Crashes.{AreCalm, AreCrashSafe, Storage}
use Rattle.session.specs.replies.Foreseen.{history}
use Rattle.mt_program.specs.Courses.{Item}

-- The next command of one of these statements, whose replies are not known: those before it gave each the first of its commands, or none, it ran
-- from there on, and then nothing was accepted. That leaves open whose command it is, where it is the next one of several, and whether a commit failed.
pub record MayBeNextOf (h : History) (base : ℕ) (statements : List Item) (c : Command) : Type 0 where
  pub before : List Item
  pub said : Item
  pub after : List Item
  pub split : statements ≡ before ++ said ∷ after
  pub place : ℕ
  pub gives : SessionGives h 0 before base place
  pub next : IsNextCommand h 0 said place (length h) c

-- What may be begun after statements ran whose replies are not known: what was begun before, where nothing was accepted; nothing; or the next
-- command of one of them.
abbrev pub MayBeBegunBy : Told → Told → List Item → Type 0
MayBeBegunBy first now statements =
    ((now.begun ≡ first.begun) × (length now.list ≡ length first.list))
    ⊎ (now.begun ≡ None)
    ⊎ ((c : Command) × (now.begun ≡ Some (entry_of 0 c)) × MayBeNextOf (history now) (length first.list) statements c)

-- Annals that are known list what they listed first, and then what these statements gave, which ran one after another. What is begun was begun
-- first, or may be the next command of one of them.
pub record IsGainedBy (statements : List Item) (annals : Option Told) (first : Told) : Type 0 where
  pub now : Told
  pub annals_is : annals ≡ Some now
  pub more : List Noted
  pub more_is : now.list ≡ first.list ++ more
  pub sessions : All (λ (n : Noted). n.entry.session ≡ 0) more
  pub gives : SessionGives (history now) 0 statements (length first.list) (length now.list)
  pub begun : MayBeBegunBy first now statements

-- Whatever a crash leaves holds each entry from the moment on when it was noted. Where the disk's count of faults is the one at opening,
-- whatever a crash leaves now stands for the whole list. What the annals gained is of these statements.
pub record LeavesForCrashes (statements : List Item) (opened : ℕ) (now : Storage) (first : Told) (start : ℕ) : Type 0 where
  pub safe : AreCrashSafe now first start
  pub calm : now.failed ≡ opened → AreCalm now first start
  pub gained : IsGainedBy statements now.annals first

-- the same of the statements of a text, which is the script where the source is known
pub record LeavesOfScript (source : Option (List ℕ)) (opened : ℕ) (now : Storage) (first : Told) (start : ℕ) : Type 0 where
  pub text : List ℕ
  pub text_is : (script : List ℕ) → source ≡ Some script → text ≡ script
  pub leaves : LeavesForCrashes (statements_of text) opened now first start

-- nothing was added to the disk and to the list, the mark stayed, and nothing was written
pub record IsAsBefore (before now : Storage) (written written_now : Option (List ℕ)) : Type 0 where
  pub names : now.disk ≡ before.disk
  pub mark : now.clock ≡ before.clock
  pub list : now.annals ≡ before.annals
  pub output : written_now ≡ written
