-- How a run ends (docs/replies.md, "Statuses").
use Rattle.std.specs.Prelude.{ℕ}
use Rattle.mt_program.specs.declared.status.Status.{Status}
use Rattle.mt_program.specs.declared.status.Status.TheVariants as status

-- the number of each status
abbrev pub status_number : Status → ℕ
status_number status.Done = 0
status_number status.Refused = 1
status_number status.NotWords = 2
status_number status.ReadFault = 3
status_number status.WriteFault = 4
status_number status.DiskFault = 5
status_number status.NoMemory = 6
status_number status.Damaged = 7
status_number status.TooLong = 8
