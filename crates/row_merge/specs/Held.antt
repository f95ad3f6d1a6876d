-- How many rows a merge has in memory (docs/engines.md, "Merges").
use Rattle.std.specs.Prelude.{◌≡◌, ℕ, ◌+◌, ◌-◌, ◌*◌, ◌≤◌, ◌^◌, max, min}
use Rattle.row_merge.specs.declared.held.Held.{Held}

-- no row was read yet
abbrev pub no_rows : Held
no_rows = record { read = 0; made = 0; most_read = 0; most_made = 0; most_given = 0 }

-- sums that stay at the greatest number of 64 bits
abbrev pub sum_of : ℕ → ℕ → ℕ
sum_of a b = min (a + b) (2 ^ 64 - 1)

-- what is counted once some rows were read, one was taken, the rule gave some, and some of these were appended
abbrev pub read_more : ℕ → Held → Held
read_more rows h = record h { read = sum_of h.read rows; most_read = max h.most_read (sum_of h.read rows) }

abbrev pub took : Held → Held
took h = record h { read = h.read - 1 }

-- this many were taken at once
abbrev pub took_some : ℕ → Held → Held
took_some rows h = record h { read = h.read - rows }

abbrev pub gave : ℕ → Held → Held
gave rows h = record h { made = sum_of h.made rows; most_made = max h.most_made (sum_of h.made rows); most_given = max h.most_given rows }

abbrev pub appended : ℕ → Held → Held
appended rows h = record h { made = h.made - rows }

-- no row is in memory
pub record IsIdle (h : Held) : Type 0 where
  pub read : h.read ≡ 0
  pub made : h.made ≡ 0

-- A merge of this many inputs had at most a granule of each in memory, and of the rows that its rule gave at most a granule and those that it gave at once, and no
-- fewer than these.
pub record IsHeldWithin (inputs granularity : ℕ) (h : Held) : Type 0 where
  pub read : h.most_read ≤ inputs * granularity
  pub made : h.most_made ≤ granularity + h.most_given
  pub given : h.most_given ≤ h.most_made
