-- Events over tables of numbers: each of them may come, whatever came before.
use Rattle.std.specs.Prelude.{◌≡◌, ℕ, List, [], ◌∷◌, Bool, false, Option, None, Some, codes, if◌then◌else◌, nat_eq}
use Rattle.mt_base.specs.Limits.{default_granularity}
use Rattle.mt_values.specs.declared.command.Command.{Command}
use Rattle.mt_values.specs.declared.command.Command.TheVariants as command
use Rattle.mt_values.specs.declared.engine.Aggregate.TheVariants as aggregate
use Rattle.mt_values.specs.declared.engine.Engine.{Engine}
use Rattle.mt_values.specs.declared.engine.Engine.TheVariants as engine
use Rattle.mt_values.specs.declared.schema.Column.{Column}
use Rattle.mt_values.specs.declared.schema.Schema.{Schema}
use Rattle.mt_values.specs.declared.value.ColType.TheVariants as type
use Rattle.table_core.specs.mt_model.History.{History, IsInsertInto}
use Rattle.table_core.specs.mt_model.Mutations.{IsChangeOf}
use Rattle.table_core.specs.declared.event.Crash.{Crash}
use Rattle.table_core.specs.declared.event.Crash.TheVariants as crash
use Rattle.table_core.specs.declared.event.Event.{Event}
use Rattle.table_core.specs.declared.event.Event.TheVariants as event
use Rattle.table_core.specs.Core.{Core}
use Rattle.table_core.specs.Steps.{MayPut}

-- the schema of a table with these columns, of which the one at a place is the key, an engine, and the column of its partitions
abbrev pub keyed : List Column → Engine → ℕ → Option ℕ → Schema
keyed columns rule place partition = record {
  columns = columns;
  engine = rule;
  key = place ∷ [];
  primary = place ∷ [];
  partition = partition;
  granularity = default_granularity;
  indexes = [];
}

-- a column of type UInt8
abbrev pub number_column : List ℕ → Column
number_column name = record { name = name; col_type = type.UInt8; function = None }

-- the schema of a table with one partition: one column `a` of type UInt8, which is the key (docs/testing.md, "Cases: `run_cases`")
abbrev pub of_numbers : Schema
of_numbers = keyed (number_column (codes "a") ∷ []) engine.Plain 0 None

-- the schema of a table with several partitions: columns `p` and `a` of type UInt8, which are the partition column and the key (docs/testing.md, "Cases: `run_cases`")
abbrev pub parted : Schema
parted = keyed (number_column (codes "p") ∷ number_column (codes "a") ∷ []) engine.Plain 1 (Some 0)

-- the schema of a table with columns `a` and `b` of type UInt8, of which the first is the key, and with an engine (docs/testing.md, "Cases: `run_cases`")
abbrev pub of_pairs : Engine → Schema
of_pairs rule = keyed (number_column (codes "a") ∷ number_column (codes "b") ∷ []) rule 0 None

-- the schema of a table whose merges leave the last row of each key (docs/testing.md, "Cases: `run_cases`")
abbrev pub of_lasts : Schema
of_lasts = of_pairs (engine.Replacing None)

-- the schema of a table whose merges leave the sum of each key (docs/testing.md, "Cases: `run_cases`")
abbrev pub of_sums : Schema
of_sums = of_pairs (engine.Summing (1 ∷ []))

-- the schema of a table whose rows have a mark: columns `a`, which is the key, and `c` of type UInt8, with a column between them, and an engine (docs/testing.md, "Cases: `run_cases`")
abbrev pub of_marks : Engine → Column → Schema
of_marks rule middle = keyed (number_column (codes "a") ∷ middle ∷ number_column (codes "c") ∷ []) rule 0 None

-- a column `b` of type UInt8
abbrev pub number_b : Column
number_b = number_column (codes "b")

-- the schema of a plain table whose rows have a mark (docs/testing.md, "Cases: `run_cases`")
abbrev pub of_triples : Schema
of_triples = of_marks engine.Plain number_b

-- the schema of a table whose merges leave the row of each key with the greatest version, `b` (docs/testing.md, "Cases: `run_cases`")
abbrev pub of_newest : Schema
of_newest = of_marks (engine.Replacing (Some 1)) number_b

-- the schema of a table whose merges leave the sum of each key, of `b` (docs/testing.md, "Cases: `run_cases`")
abbrev pub of_marked_sums : Schema
of_marked_sums = of_marks (engine.Summing (1 ∷ [])) number_b

-- the schema of a table whose merges cancel rows by their sign, `b` (docs/testing.md, "Cases: `run_cases`")
abbrev pub of_signs : Schema
of_signs = of_marks (engine.Collapsing 1) (record { name = codes "b"; col_type = type.Int8; function = None })

-- the schema of a table whose merges leave the greatest `b` of each key (docs/testing.md, "Cases: `run_cases`")
abbrev pub of_greatest : Schema
of_greatest = of_marks engine.Aggregating (record { name = codes "b"; col_type = type.UInt8; function = Some aggregate.Max })

-- the schema of a table whose merges cancel rows of one version by their sign: columns `a`, which is the key, `b`, the version, `c` and the sign `s` (docs/testing.md, "Cases: `run_cases`")
abbrev pub of_versions : Schema
of_versions =
    keyed (number_column (codes "a") ∷ number_b ∷ number_column (codes "c") ∷ record { name = codes "s"; col_type = type.Int8; function = None } ∷ []) (engine.Versioned 3 1) 0 None

-- whether a name begins with a letter
abbrev pub begins_with : ℕ → List ℕ → Bool
begins_with letter [] = false
begins_with letter (first ∷ letters) = nat_eq first letter

-- the schema of the table of this name, by its first letter: `c`, `d`, `g`, `m`, `n`, `q` or another (docs/testing.md, "Cases: `run_cases`")
abbrev pub marked_schema : List ℕ → Schema
marked_schema table =
    if begins_with 99 table then of_signs
    else (if begins_with 100 table then of_versions
    else (if begins_with 103 table then of_greatest
    else (if begins_with 109 table then of_triples
    else (if begins_with 110 table then of_newest else (if begins_with 113 table then of_marked_sums else of_numbers)))))

-- the schema of the table of this name, by its first letter: `p`, `r`, `s` or another (docs/testing.md, "Cases: `run_cases`")
abbrev pub event_schema : List ℕ → Schema
event_schema table =
    if begins_with 112 table then parted
    else (if begins_with 114 table then of_lasts else (if begins_with 115 table then of_sums else marked_schema table))

-- a CREATE makes such a table, an INSERT has rows of such a table, and a mutation changes rows of such a table
abbrev pub FitsAccept : Command → Type 0
FitsAccept (command.Create c) = c.schema ≡ event_schema c.table
FitsAccept (command.Insert i) = IsInsertInto (event_schema i.table) i
FitsAccept (command.Alter a) = IsChangeOf (event_schema a.table) a.change

-- a crash comes between events, or within such an accept
abbrev pub FitsCrash : Crash → Type 0
FitsCrash crash.Between = Unit {0}
FitsCrash (crash.Within e done) = FitsAccept e.command
FitsCrash (crash.WithinPut m done) = ⊥

-- an event is such an accept, the taking or the reading of a snapshot, or such a crash; none is a put
abbrev pub Fits : Event → Type 0
Fits (event.Accept e) = FitsAccept e.command
Fits (event.Put m) = ⊥
Fits (event.TakeSnapshot table) = Unit {0}
Fits (event.ReadSnapshot number) = Unit {0}
Fits (event.Crash c) = FitsCrash c

-- a crash after some events: the same, or within a put of what a merge may leave of the parts that are there
abbrev pub FitsCrashAfter : Core → Crash → Type 0
FitsCrashAfter core crash.Between = Unit {0}
FitsCrashAfter core (crash.Within e done) = FitsAccept e.command
FitsCrashAfter core (crash.WithinPut m done) = MayPut core m

-- an event after some others: the same, or a put of what a merge may leave of the parts that are there
abbrev pub FitsAfter : Core → Event → Type 0
FitsAfter core (event.Accept e) = FitsAccept e.command
FitsAfter core (event.Put m) = MayPut core m
FitsAfter core (event.TakeSnapshot table) = Unit {0}
FitsAfter core (event.ReadSnapshot number) = Unit {0}
FitsAfter core (event.Crash c) = FitsCrashAfter core c

-- a CREATE makes a table of the events
abbrev pub IsOfEvents : Command → Type 0
IsOfEvents (command.Create c) = c.schema ≡ event_schema c.table
IsOfEvents (command.Insert i) = Unit {0}
IsOfEvents (command.Alter a) = Unit {0}

-- each table of a history is one of the events
abbrev pub AreOfEvents : History → Type 0
AreOfEvents [] = Unit {0}
AreOfEvents (e ∷ h) = IsOfEvents e.command × AreOfEvents h
