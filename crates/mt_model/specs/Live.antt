-- The rows of a table after all commands (docs/definitions.md, "Live rows"; ClickHouse, INSERT INTO and MergeTree: ORDER BY).
use Rattle.std.specs.Prelude.{ℕ, ◌&&◌, List, [], ◌∷◌, ◌++◌, filter, if◌then◌else◌}
use Rattle.std.specs.Ordering.{is_gt, is_eq}
use Rattle.std.specs.declared.cmp.Ordering.{Ordering}
use Rattle.mt_values.specs.declared.command.Command.{Command}
use Rattle.mt_values.specs.declared.command.Command.TheVariants as command
use Rattle.mt_base.specs.declared.partition.Partition.{Partition}
use Rattle.mt_values.specs.declared.schema.Schema.{Schema}
use Rattle.mt_values.specs.Changes.{changed}
use Rattle.mt_values.specs.Values.{Row}
use Rattle.mt_values.specs.Grammar.{same_bytes}
use Rattle.mt_values.specs.Tables.{partition_of, same_partition, sorting_cmp}
use Rattle.mt_model.specs.History.{History}

-- a row before the first that is not less than it (docs/definitions.md, "Live rows")
abbrev pub placed : (Row → Row → Ordering) → Row → List Row → List Row
placed cmp x [] = x ∷ []
placed cmp x (y ∷ ys) = if is_gt (cmp x y) then y ∷ placed cmp x ys else x ∷ y ∷ ys

-- the rows in order, those that compare alike in the order in which they came (docs/definitions.md, "Live rows")
abbrev pub sorted : (Row → Row → Ordering) → List Row → List Row
sorted cmp [] = []
sorted cmp (x ∷ xs) = placed cmp x (sorted cmp xs)

-- the rows of a table of this schema after one more command: an INSERT into it adds its rows in the table's order, a mutation changes those that are there (docs/definitions.md, "Live rows")
abbrev pub rows_after : List ℕ → Schema → List Row → Command → List Row
rows_after table schema rows (command.Create c) = rows
rows_after table schema rows (command.Insert i) =
    if same_bytes i.table table then rows ++ sorted (sorting_cmp schema) i.block.rows else rows
rows_after table schema rows (command.Alter a) = if same_bytes a.table table then changed a.change rows else rows

-- what the commands leave of these rows and add to them (docs/definitions.md, "Live rows")
abbrev pub live_from : List ℕ → Schema → List Row → History → List Row
live_from table schema rows [] = rows
live_from table schema rows (e ∷ es) = live_from table schema (rows_after table schema rows e.command) es

-- the rows of a table of this schema (docs/definitions.md, "Live rows")
abbrev pub live : List ℕ → Schema → History → List Row
live table schema h = live_from table schema [] h

-- the rows of one partition and key, in their order: those of the partition that compare alike with a row (docs/definitions.md, "Partly folded rows")
abbrev pub of_key : Schema → Partition → Row → List Row → List Row
of_key schema partition row rows =
    filter (λ r. same_partition (partition_of schema r) partition && is_eq (sorting_cmp schema row r)) rows
