-- Counts that stay at the last value of 64 bits (docs/architecture.md, "Counts of faults").
use Rattle.std.specs.Prelude.{ℕ, ◌+◌, ◌-◌, ◌^◌, min, Result, Ok, Err}
use Rattle.mt_outside.specs.declared.disk.DiskError.{DiskError}
use Rattle.mt_outside.specs.declared.disk.DiskError.TheVariants.{Fault, NoMemory}

-- one more, as far as 64 bits count
abbrev pub next : ℕ → ℕ
next count = min (count + 1) (2 ^ 64 - 1)

-- a count of failed calls after a call of a disk, an arm or a stage: out of memory is no fault
abbrev pub counted : {T : Type 0} → Result T DiskError → ℕ → ℕ
counted (Ok value) failed = failed
counted (Err Fault) failed = next failed
counted (Err NoMemory) failed = failed
