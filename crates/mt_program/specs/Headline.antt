-- What a run promises (docs/definitions-of-runs.md, "Runs").
use Rattle.std.specs.Prelude.{◌≡◌, ◌⊎◌, ◌<◌, ◌^◌, ℕ, List, [], ◌++◌, length, take, Bool, true, false, Option, Some, None}
use Rattle.std.specs.List.{concat}
use Rattle.mt_values.specs.declared.annals.Noted.{Noted}
use Rattle.mt_values.specs.Annals.{Told}
use Rattle.mt_values.specs.Script.{statements_of}
use Rattle.session.specs.mt_model.History.{IsLegal}
use Rattle.session.specs.mt_model.Outside.{Outside}
use Rattle.mt_program.specs.Statuses.{status_number}
use Rattle.session.specs.replies.Foreseen.{history}
use Rattle.mt_program.specs.Courses.{AreSettled, Course, IsBegunBy, IsCut, Item, RunOf, TalliesReplies, started}
use Rattle.mt_program.specs.Worlds.{IsOutsideOf, Starts, World}
use Rattle.mt_program.specs.declared.status.Status.{Status}
use Rattle.mt_program.specs.declared.status.Status.TheVariants as status

-- All statements of the script were answered, and their replies written whole. None of these says that a file is damaged, and whether one
-- refuses its statement for what the script says is this.
pub record AnsweredAll (refused : Bool) (source : Option (List ℕ)) (script : List ℕ) (course : Course) (rest : List Item) (out : List ℕ) : Type 0 where
  pub all : rest ≡ []
  pub answered : course.unanswered ≡ None
  pub out_is : out ≡ concat course.replies
  pub says : TalliesReplies (record { refused = refused; damaged = false }) course.replies
  pub short : length script < 2 ^ 40
  pub read : source ≡ Some []

-- The first statements of a script were wholly read: whatever had followed what was read, they would be the same.
abbrev pub AreWhollyRead : ℕ → List ℕ → Option (List ℕ) → Type 0
AreWhollyRead count script left = (read rest more : List ℕ) → left ≡ Some rest → script ≡ read ++ rest → take count (statements_of (read ++ more)) ≡ take count (statements_of script)

-- The statements that ran were wholly read, and their replies written whole.
pub record AnsweredRead (source : Option (List ℕ)) (script : List ℕ) (course : Course) (out : List ℕ) : Type 0 where
  pub answered : course.unanswered ≡ None
  pub out_is : out ≡ concat course.replies
  pub wholly : AreWhollyRead (length course.ran) script source

-- No statement ran. What the disk, the annals, the source and the sink tell is as it was, and so is the disk's mark. The counts of faults are left
-- open.
pub record NothingRan (before after : World) (course : Course) : Type 0 where
  pub none : course.ran ≡ []
  pub answered : course.unanswered ≡ None
  pub disk : after.storage.disk ≡ before.storage.disk
  pub clock : after.storage.clock ≡ before.storage.clock
  pub annals : after.storage.annals ≡ before.storage.annals
  pub source : after.source ≡ before.source
  pub sink : after.sink ≡ before.sink

-- Which statements ran, and what was written of their replies, by how the run ended. Where the disk's count rose, all were answered, or the root
-- was not opened. Where memory ran out one more may have run, which has no reply.
abbrev pub EndsBy : Status → World → World → List ℕ → Course → List Item → List ℕ → Type 0
EndsBy status.Done before after script course rest out = AnsweredAll false after.source script course rest out
EndsBy status.Refused before after script course rest out = AnsweredAll true after.source script course rest out
EndsBy status.NotWords before after script course rest out = NothingRan before after course
EndsBy status.ReadFault before after script course rest out = AnsweredRead after.source script course out
EndsBy status.WriteFault before after script course rest out = (course.unanswered ≡ None) × IsCut course.replies out
EndsBy status.DiskFault before after script course rest out = ((refused : Bool) × AnsweredAll refused after.source script course rest out) ⊎ NothingRan before after course
EndsBy status.NoMemory before after script course rest out = out ≡ concat course.replies
EndsBy status.Damaged before after script course rest out = ⊥
EndsBy status.TooLong before after script course rest out = AnsweredRead after.source script course out

-- What a run leaves, by how it ended. The annals hold a list that begins with the one before and is legal. The first statements of the script ran,
-- each with a reply that it may have at its place of that list, by what the outside did in the run, and each entry that the list gained is theirs.
-- What is begun was begun before, or is nothing, or the next command of the statement whose commit failed, or that has no reply. What was written is
-- their replies. Where none of these says that the commit of a command failed, the root stands for the list, so that the next run opens it.
pub record Headline (ended : Status) (before after : World) (kept : Told) (script written : List ℕ) : Type 0 where
  pub now : Told
  pub annals_is : after.storage.annals ≡ Some now
  pub more : List Noted
  pub begins : now.list ≡ kept.list ++ more
  pub legal : IsLegal (history now)
  pub course : Course
  pub rest : List Item
  pub split : statements_of script ≡ started course ++ rest
  pub outside : Outside
  pub outside_is : IsOutsideOf before after outside
  pub ran : RunOf outside (history now) (length kept.list) course
  pub begun : IsBegunBy outside kept now course
  pub out : List ℕ
  pub sink_is : after.sink ≡ Some (written ++ out)
  pub ends : EndsBy ended before after script course rest out
  pub settled : AreSettled course after.storage.disk (history now)

-- the same, of a run that ended with this number
abbrev pub HeadlineBy : ℕ → World → World → Type 0
HeadlineBy number before after = (kept : Told) (script written : List ℕ) → Starts before kept script written → (ended : Status) × (number ≡ status_number ended) × Headline ended before after kept script written
