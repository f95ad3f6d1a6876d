-- What merges at unknown times may leave of a table's rows (docs/definitions.md, "Partly folded rows"; ClickHouse, MergeTree: data storage).
use Rattle.std.specs.Prelude.{List, Option, map}
use Rattle.mt_base.specs.declared.partition.Partition.{Partition}
use Rattle.mt_values.specs.declared.engine.Aggregate.{Aggregate}
use Rattle.mt_values.specs.declared.schema.Column.{Column}
use Rattle.mt_values.specs.declared.schema.Schema.{Schema}
use Rattle.mt_values.specs.Values.{Row}
use Rattle.mt_model.specs.Folding.{ComesFrom, Leaves}
use Rattle.mt_model.specs.Live.{of_key}
use Rattle.mt_model.specs.Rules.{Run}

-- the function of each column, where it has one (ClickHouse, SimpleAggregateFunction; docs/engines.md, "AggregatingMergeTree")
abbrev pub functions_of : Schema → List (Option Aggregate)
functions_of schema = map (λ (c : Column). c.function) schema.columns

-- what one merge may leave of at least one row of one partition and key of the table (docs/engines.md, "Merges")
abbrev pub TableRun : Schema → List Row → List Row → Type 0
TableRun schema rows out = Run schema.engine (functions_of schema) rows out

-- of each partition and key there is what any number of merges may leave of the live rows of them (docs/definitions.md, "Partly folded rows"; ClickHouse, MergeTree: data storage)
abbrev pub Partly : Schema → List Row → List Row → Type 0
Partly schema live x = (partition : Partition) (row : Row) → ComesFrom (TableRun schema) (of_key schema partition row live) (of_key schema partition row x)

-- one merge of all rows: of each partition and key there is what one fold may leave of the rows of it (docs/engines.md, "Merges"; ClickHouse, MergeTree: data storage)
abbrev pub MergesAll : Schema → List Row → List Row → Type 0
MergesAll schema rows out = (partition : Partition) (row : Row) → Leaves (TableRun schema) (of_key schema partition row rows) (of_key schema partition row out)
