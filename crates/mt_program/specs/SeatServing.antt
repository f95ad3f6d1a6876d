-- What a script that a session ran over a shared root leaves, by what its seat, its share and its arm know (docs/definitions-of-runs.md, "A session's run").
use Rattle.std.specs.Prelude.{◌≡◌, ℕ, List, ◌++◌, Option, None, Some}
use Rattle.std.specs.Io.KnownBytes.{Appends}
use Rattle.mt_values.specs.Script.{statements_of}
use Rattle.mt_outside.specs.Files.{Files}
use Rattle.session.specs.mt_model.History.{History}
use Rattle.session.specs.shared_store.Sharing.{AtOpening}
use Rattle.session.specs.shared_store.Stood.{Premise}
use Rattle.session.specs.Answers.{Having}
use Rattle.session.specs.Runs.{RanEach, RanOut}
use Rattle.mt_program.specs.Courses.{Course, Item, started}
use Rattle.mt_program.specs.declared.serving.Ending.{Ending}
use Rattle.mt_program.specs.Serving.{Output, StopsBy}

-- the statements ran one after another, each with its reply, and the one after them without a reply
abbrev pub GoesBy : {F : Type 0} → (F → Option Files) → (Premise → Type 0) → History → AtOpening → ℕ → List Item → Option Item → List (List ℕ) → Having → Having → Type 0
GoesBy files_of given before o whole ran None replies old new = RanEach files_of given before o whole ran replies old new
GoesBy files_of given before o whole ran (Some last) replies old new = RanOut files_of given before o whole ran last replies old new

-- What a script that was served leaves, by how it ended: the first statements ran. One more may have run that has no reply.
pub record SeatServes {F : Type 0} (files_of : F → Option Files) (given : Premise → Type 0) (before : History) (o : AtOpening) (whole : ℕ) (ended : Ending) (script : List ℕ) (old new : Having) (output : Output) : Type 0 where
  pub course : Course
  pub rest : List Item
  pub out : List ℕ
  pub split : statements_of script ≡ started course ++ rest
  pub ran : GoesBy files_of given before o whole course.ran course.unanswered course.replies old new
  pub wrote : Appends output.before output.after out
  pub stops : StopsBy ended course rest out
