-- The status of a run, by what ended it (docs/replies.md, "Statuses").
use Rattle.std.specs.Prelude.{◌≡◌, ◌⊎◌, ℕ, Bool, false, List, Some, Result, Ok, Err, if◌then◌else◌}
use Rattle.mt_values.specs.Annals.{Told}
use Rattle.mt_outside.specs.declared.disk.DiskError.{DiskError}
use Rattle.mt_outside.specs.declared.disk.DiskError.TheVariants as failure
use Rattle.mt_program.specs.declared.serving.Ending.{Ending}
use Rattle.mt_program.specs.declared.serving.Ending.TheVariants as ending
use Rattle.session.specs.replies.declared.tally.Tally.{Tally}
use Rattle.session.specs.run_streams.declared.streams.SourceStop.{SourceStop}
use Rattle.session.specs.run_streams.declared.streams.SourceStop.TheVariants as unread
use Rattle.mt_program.specs.Serving.{Output, ServedBy, Stretch}
use Rattle.mt_program.specs.Worlds.{IsFullOnlyBy}
use Rattle.mt_program.specs.declared.status.Status.{Status}
use Rattle.mt_program.specs.declared.status.Status.TheVariants as status

-- the status of a call on the disk that failed at opening
abbrev pub status_of_error : DiskError → Status
status_of_error failure.Fault = status.DiskFault
status_of_error failure.NoMemory = status.NoMemory

-- the status of a script that was not read
abbrev pub status_of_stop : SourceStop → Status
status_of_stop unread.NoMemory = status.NoMemory
status_of_stop unread.Fault = status.ReadFault
status_of_stop unread.TooLong = status.TooLong

-- the status of a script that was served; where all statements were answered damage comes first, then a count of faults that has risen
abbrev pub settled : Tally → Bool → Status
settled t risen = if t.damaged then status.Damaged else if risen then status.DiskFault else if t.refused then status.Refused else status.Done

abbrev pub status_for : Bool → Ending → Status
status_for risen (ending.Done tally) = settled tally risen
status_for risen ending.NoMemory = status.NoMemory
status_for risen ending.WriteFault = status.WriteFault

-- the status of a run that served its script, or ended before
abbrev pub status_of : Bool → Result Ending Status → Status
status_of risen (Ok ending) = status_for risen ending
status_of risen (Err early) = early

-- all statements were answered, and no fault is shown
abbrev pub IsAnswered : Status → Type 0
IsAnswered s = (s ≡ status.Done) ⊎ (s ≡ status.Refused)

-- a status by which a run may end before its script is served
abbrev pub IsEarly : Status → Type 0
IsEarly status.ReadFault = Unit {0}
IsEarly status.DiskFault = Unit {0}
IsEarly status.NoMemory = Unit {0}
IsEarly status.TooLong = Unit {0}
IsEarly status.Damaged = Unit {0}
IsEarly status.Done = ⊥
IsEarly status.Refused = ⊥
IsEarly status.NotWords = ⊥
IsEarly status.WriteFault = ⊥

-- nothing damaged was met
abbrev pub MetNoDamage : Result Ending Status → Type 0
MetNoDamage (Ok (ending.Done tally)) = tally.damaged ≡ false
MetNoDamage (Ok ending.NoMemory) = Unit {0}
MetNoDamage (Ok ending.WriteFault) = Unit {0}
MetNoDamage (Err early) = early ≡ status.Damaged → ⊥

-- What is left of a script that was served. Where the run ended before, no more was told or written, and the root is as it was.
abbrev pub LeftBy : Result Ending Status → Told → List ℕ → Stretch → Output → Type 0
LeftBy (Ok ending) kept script s output = ServedBy ending kept script s output
LeftBy (Err early) kept script s output = (s.now.annals ≡ Some kept) × (output.after ≡ output.before) × (s.now.disk ≡ s.root)

-- The same, where it is left open whether some part has the greatest level at the end: it has only where a visible part has it then
-- (docs/definitions-of-runs.md, "Faults of the outside").
pub record LeftAtEnd (ended : Result Ending Status) (kept : Told) (script : List ℕ) (s : Bool → Stretch) (output : Output) : Type 0 where
  pub full : Bool
  pub only : IsFullOnlyBy (s full).now.disk full
  pub left : LeftBy ended kept script (s full) output
