-- A source and a sink in memory as contracts see them (docs/architecture.md, "Counts of faults").
use Rattle.std.specs.Prelude.{ℕ, List, Result, Ok, Err}
use Rattle.mt_outside.specs.Counts.{next}

-- the pieces that are left, the numbers of the reads that fail, how many reads were made, and how many of them failed
pub record SourceState : Type 0 where
  pub pieces : List (List ℕ)
  pub fail : List ℕ
  pub calls : ℕ
  pub failed : ℕ

-- what was written, the numbers of the writes that fail, how many writes were made, how many of them failed, and how many bytes a write takes at most
pub record SinkState : Type 0 where
  pub written : List ℕ
  pub fail : List ℕ
  pub calls : ℕ
  pub failed : ℕ
  pub most : ℕ

-- how many calls have failed after a call whose every error is a failure
abbrev pub count_after : {T E : Type 0} → Result T E → ℕ → ℕ
count_after (Ok value) failed = failed
count_after (Err error) failed = next failed
