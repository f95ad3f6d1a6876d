-- What the code that reads scripts found, by numbers of bytes.
use Rattle.std.specs.Prelude.{◌≡◌, ℕ, ◌+◌, ◌<◌, ◌≤◌, Bool, true, false, ◌||◌, List, length, take, drop, Option, Some, None, Result, Ok, Err}
use Rattle.std.specs.Option.{option_map}
use Rattle.mt_base.specs.declared.stop.Stop.{Stop}
use Rattle.mt_base.specs.declared.stop.Stop.TheVariants as stop
use Rattle.mt_values.specs.declared.statement.Cause.{Cause}
use Rattle.mt_values.specs.declared.statement.Statement.{Statement}
use Rattle.mt_values.specs.Script.{has_whole, next_statement}
use Rattle.sql_read.specs.declared.script.Next.{Next}
use Rattle.sql_read.specs.declared.script.Next.TheVariants as next

-- the two sides of a byte of a text, by its place
abbrev pub parts_at : List ℕ → Option ℕ → Option (List ℕ × List ℕ)
parts_at text place = option_map (λ k. (take k text, drop (k + 1) text)) place

-- so many bytes of a script are some, and no more than it has
abbrev pub IsUsed : List ℕ → ℕ → Type 0
IsUsed script used = (0 < used) × (used ≤ length script)

-- What a script begins with, of which no more bytes come (the flag), or some may come. What is found is what the whole
-- script begins with.
abbrev pub IsNext : List ℕ → Bool → Next → Type 0
IsNext script ended (next.Found s used) =
    (next_statement script ≡ Some (Ok s, drop used script)) × IsUsed script used × (ended || has_whole script ≡ true)
IsNext script ended (next.Refused c used) =
    (next_statement script ≡ Some (Err c, drop used script)) × IsUsed script used × (ended || has_whole script ≡ true)
IsNext script ended next.NeedMore = (ended ≡ false) × (has_whole script ≡ false)
IsNext script ended next.End = (ended ≡ true) × (next_statement script ≡ None)
IsNext script ended next.NoMemory = Unit {0}

-- what a script begins with, by what was found in so many bytes of it
abbrev pub next_of : Result Statement (Stop Cause) → ℕ → Next
next_of (Ok s) used = next.Found s used
next_of (Err (stop.Refused c)) used = next.Refused c used
next_of (Err stop.NoMemory) used = next.NoMemory
