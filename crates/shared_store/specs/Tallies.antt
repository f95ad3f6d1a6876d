-- What a share has of the four ledgers, and what an answer counts in them (docs/architecture.md, "The lock").
use Rattle.std.specs.Prelude.{ℕ, Option, None, Some, Result}
use Rattle.root_commits.specs.durable_commit.declared.causes.Limit.TheVariants as limit
use Rattle.root_commits.specs.durable_commit.declared.causes.Refused.{Refused}
use Rattle.root_commits.specs.durable_commit.declared.causes.Refused.TheVariants as refused
use Rattle.root_commits.specs.declared.commits.Returned.{Returned}
use Rattle.root_commits.specs.Commits.{cause_of}

-- What a share has: its parts of the right to know the whole, and what it counted. That are the works that are out, the answers that the disk failed or the
-- store was stopped, the answers that a level would be greater than may be, and by how many faults the disk's count rose in its turns.
pub record Tally : Type 0 where
  pub parts : ℕ
  pub out : ℕ
  pub stops : ℕ
  pub levels : ℕ
  pub faults : ℕ

abbrev pub tally : ℕ → ℕ → ℕ → ℕ → ℕ → Tally
tally parts out stops levels faults = record { parts = parts; out = out; stops = stops; levels = levels; faults = faults }

-- how many stops are counted of why a turn was refused; none where it was not
abbrev pub stops_in : Option Refused → ℕ
stops_in None = 0
stops_in (Some refused.NoMemory) = 0
stops_in (Some refused.Disk) = 1
stops_in (Some (refused.Stopped opened now)) = 1
stops_in (Some refused.Exists) = 0
stops_in (Some (refused.Limit l)) = 0

-- how many limits of levels are
abbrev pub levels_in : Option Refused → ℕ
levels_in None = 0
levels_in (Some refused.NoMemory) = 0
levels_in (Some refused.Disk) = 0
levels_in (Some (refused.Stopped opened now)) = 0
levels_in (Some refused.Exists) = 0
levels_in (Some (refused.Limit limit.Tables)) = 0
levels_in (Some (refused.Limit limit.Parts)) = 0
levels_in (Some (refused.Limit limit.Numbers)) = 0
levels_in (Some (refused.Limit limit.Levels)) = 1

-- the same of an answer
abbrev pub stops_by : {T S : Type 0} → Result T (Returned S) → ℕ
stops_by answer = stops_in (cause_of answer)

abbrev pub levels_by : {T S : Type 0} → Result T (Returned S) → ℕ
levels_by answer = levels_in (cause_of answer)
