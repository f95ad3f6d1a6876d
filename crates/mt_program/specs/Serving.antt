-- What a script that was served leaves (docs/definitions-of-runs.md, "Runs").
use Rattle.std.specs.Prelude.{◌≡◌, ◌<◌, ℕ, Bool, true, List, [], ◌++◌, length, All, Option, None, Some}
use Rattle.std.specs.List.{concat, list_any}
use Rattle.std.specs.Io.KnownBytes.{Appends}
use Rattle.mt_values.specs.declared.annals.Noted.{Noted}
use Rattle.mt_values.specs.Annals.{Told}
use Rattle.mt_values.specs.Script.{statements_of}
use Rattle.mt_outside.specs.Disk as root
use Rattle.session.specs.mt_model.History.{IsLegal}
use Rattle.session.specs.mt_model.Outside.{Outside}
use Rattle.session.specs.mt_model.Session.{SessionReplies}
use Rattle.root_log.specs.root_store.Crashes.{Storage}
use Rattle.session.specs.replies.Foreseen.{Foresees, history, is_unsettled}
use Rattle.mt_program.specs.Courses.{AreSettled, AreStopped, Course, GoesUnanswered, IsBegunBy, IsCut, Item, TalliesReplies, started}
use Rattle.mt_program.specs.declared.serving.Ending.{Ending}
use Rattle.mt_program.specs.declared.serving.Ending.TheVariants as ending
use Rattle.session.specs.replies.declared.tally.Tally.{Tally}

-- What statements met and left: the disk's count of faults at opening, what the disk told before them, what is known of the disk and the annals
-- after them, the arm's count of faults after them, and whether some part has the greatest level then.
pub record Stretch : Type 0 where
  pub opened : ℕ
  pub root : Option root.Told
  pub now : Storage
  pub arm : ℕ
  pub full : Bool

-- what a run may come to agrees with the counts at its end, and with whether some part has the greatest level then
abbrev pub MayComeTo : Stretch → Outside → Type 0
MayComeTo s n = Foresees s.opened s.now.failed s.arm s.full n

-- what is known of the bytes of a sink before statements and after them
pub record Output : Type 0 where
  pub before : Option (List ℕ)
  pub after : Option (List ℕ)

-- The annals list what they told and entries of session 0. The statements of the course ran, with its replies, whatever the counts come to, and
-- what is begun is theirs or was begun before. Where none of the replies says that the commit of a command failed, the root stands for the list.
pub record Ran (kept : Told) (s : Stretch) (course : Course) : Type 0 where
  pub now : Told
  pub more : List Noted
  pub told_is : s.now.annals ≡ Some now
  pub list_is : now.list ≡ kept.list ++ more
  pub legal : IsLegal (history now)
  pub sessions : All (λ (n : Noted). n.entry.session ≡ 0) more
  pub place : ℕ
  pub run : (n : Outside) → MayComeTo s n → SessionReplies n (history now) 0 course.ran (length kept.list) place course.replies
  pub last : GoesUnanswered (history now) course.unanswered place (length now.list)
  pub stopped : (n : Outside) → MayComeTo s n → AreStopped n (history now) (length kept.list) course.ran course.replies
  pub risen : list_any is_unsettled course.replies ≡ true → s.opened < s.now.failed
  pub begun : (n : Outside) → MayComeTo s n → IsBegunBy n kept now course
  pub settled : AreSettled course s.now.disk (history now)

-- how far a script was served: its bytes, the place in them, and what the replies so far said
pub record Progress : Type 0 where
  pub script : List ℕ
  pub at : ℕ
  pub tally : Tally

-- which statements are left, and what was written of the replies: all of them whole, but where the sink failed
abbrev pub StopsBy : Ending → Course → List Item → List ℕ → Type 0
StopsBy (ending.Done tally) course rest out = (course.unanswered ≡ None) × (rest ≡ []) × TalliesReplies tally course.replies × (out ≡ concat course.replies)
StopsBy ending.NoMemory course rest out = out ≡ concat course.replies
StopsBy ending.WriteFault course rest out = (course.unanswered ≡ None) × IsCut course.replies out

-- What a script that was served leaves, by how it ended: the first statements ran. One more may have run that has no reply.
pub record ServedBy (ended : Ending) (kept : Told) (script : List ℕ) (s : Stretch) (output : Output) : Type 0 where
  pub course : Course
  pub rest : List Item
  pub out : List ℕ
  pub split : statements_of script ≡ started course ++ rest
  pub ran : Ran kept s course
  pub wrote : Appends output.before output.after out
  pub stops : StopsBy ended course rest out
