-- What the clauses of a CREATE say (docs/definitions.md, "Schemas"; ClickHouse, MergeTree: ORDER BY, PARTITION BY, PRIMARY KEY, index_granularity).
use Rattle.std.specs.Prelude.{ℕ, ◌<◌, List, [], ◌∷◌, ◌++◌, length, Option, Some, None, option_to_list, unwrap_or}
use Rattle.std.specs.List.{flat_map}
use Rattle.std.specs.Option.{option_and_then}
use Rattle.mt_base.specs.Limits.{default_granularity}
use Rattle.mt_values.specs.declared.schema.Column.{Column}
use Rattle.mt_values.specs.declared.schema.KeyOrder.{KeyOrder}
use Rattle.mt_values.specs.declared.schema.KeyOrder.TheVariants.{SortingFirst, PrimaryFirst}
use Rattle.mt_values.specs.declared.schema.Schema.{Schema}
use Rattle.mt_values.specs.declared.statement.Clause.{Clause}
use Rattle.mt_values.specs.declared.statement.Clause.TheVariants as clause
use Rattle.mt_values.specs.declared.statement.CreateText.{CreateText}
use Rattle.mt_values.specs.declared.statement.EngineText.{EngineText}
use Rattle.mt_values.specs.declared.statement.EngineText.TheVariants as engine_text
use Rattle.mt_values.specs.declared.engine.Engine.{Engine}
use Rattle.mt_values.specs.declared.engine.Engine.TheVariants as engine
use Rattle.mt_values.specs.Engines.{summable_from}
use Rattle.mt_values.specs.Grammar.{columns_of}
pub use Rattle.mt_model.specs.Columns.{column_place, first_unknown, places_named}
pub use Rattle.mt_model.specs.Elements.{granularity_said, index_at, indexed_names, indexes_written, kind_written, names_of_element, written_by}

-- ---- what is named, and where

-- the names that a clause mentions (docs/definitions.md, "Schemas")
abbrev pub names_of_clause : Clause → List (List ℕ)
names_of_clause (clause.OrderBy names) = names
names_of_clause (clause.PartitionBy name) = name ∷ []
names_of_clause (clause.PrimaryKey names) = names
names_of_clause (clause.Granularity digits) = []

-- the names that the clauses mention, in the order of the text (docs/definitions.md, "Schemas")
abbrev pub mentioned : List Clause → List (List ℕ)
mentioned clauses = flat_map names_of_clause clauses

-- the names that an engine mentions, in the order of the text (docs/definitions.md, "Schemas")
abbrev pub names_of_engine : EngineText → List (List ℕ)
names_of_engine engine_text.Plain = []
names_of_engine (engine_text.Replacing version) = option_to_list version
names_of_engine (engine_text.Summing names) = names
names_of_engine (engine_text.Collapsing sign) = sign ∷ []
names_of_engine (engine_text.Versioned sign version) = sign ∷ version ∷ []
names_of_engine engine_text.Aggregating = []

-- the key that is written first (docs/definitions.md, "Schemas")
abbrev pub first_key : List Clause → KeyOrder
first_key [] = SortingFirst
first_key (clause.OrderBy names ∷ others) = SortingFirst
first_key (clause.PrimaryKey names ∷ others) = PrimaryFirst
first_key (c ∷ others) = first_key others

-- ---- what each kind of clause says

-- the names of ORDER BY (ClickHouse, MergeTree: ORDER BY)
abbrev pub sorting_names : List Clause → List (List ℕ)
sorting_names [] = []
sorting_names (clause.OrderBy names ∷ others) = names
sorting_names (c ∷ others) = sorting_names others

-- the names of PRIMARY KEY, where it is given (ClickHouse, MergeTree: PRIMARY KEY)
abbrev pub given_primary : List Clause → Option (List (List ℕ))
given_primary [] = None
given_primary (clause.PrimaryKey names ∷ others) = Some names
given_primary (c ∷ others) = given_primary others

-- the names of the primary key: where it is not given, those of ORDER BY (ClickHouse, MergeTree: PRIMARY KEY)
abbrev pub primary_names : List Clause → List (List ℕ)
primary_names clauses = unwrap_or (given_primary clauses) (sorting_names clauses)

-- the name of PARTITION BY, where it is given (ClickHouse, MergeTree: PARTITION BY)
abbrev pub partition_name : List Clause → Option (List ℕ)
partition_name [] = None
partition_name (clause.PartitionBy name ∷ others) = Some name
partition_name (c ∷ others) = partition_name others

-- the rows of a granule: where they are not given, 8192; each number past the bound stands for all of them (ClickHouse, MergeTree: index_granularity)
abbrev pub granularity_of : List Clause → ℕ
granularity_of [] = default_granularity
granularity_of (clause.Granularity digits ∷ others) = granularity_said digits
granularity_of (c ∷ others) = granularity_of others

-- the place of a name, which is a column's (docs/definitions.md, "Schemas")
abbrev pub place_named : List Column → List ℕ → ℕ
place_named columns name = unwrap_or (column_place columns name) 0

-- the columns that are summed: those of the list, or where it is not given those of numbers that neither key nor partition has (ClickHouse, SummingMergeTree: columns; docs/engines.md, "Columns")
abbrev pub places_summed : List Column → List ℕ → Option ℕ → List (List ℕ) → List ℕ
places_summed columns key partition [] = summable_from 0 key partition columns
places_summed columns key partition (name ∷ names) = places_named columns (name ∷ names)

-- the engine that a text writes, over columns with this key and partition column, each name a column's (docs/engines.md, "Columns")
abbrev pub engine_written : List Column → List ℕ → Option ℕ → EngineText → Engine
engine_written columns key partition engine_text.Plain = engine.Plain
engine_written columns key partition (engine_text.Replacing version) = engine.Replacing (option_and_then (column_place columns) version)
engine_written columns key partition (engine_text.Summing names) = engine.Summing (places_summed columns key partition names)
engine_written columns key partition (engine_text.Collapsing sign) = engine.Collapsing (place_named columns sign)
engine_written columns key partition (engine_text.Versioned sign version) = engine.Versioned (place_named columns sign) (place_named columns version)
engine_written columns key partition engine_text.Aggregating = engine.Aggregating

-- the sorting key that clauses write, and the partition column (docs/definitions.md, "Schemas")
abbrev pub key_written : List Column → List Clause → List ℕ
key_written columns clauses = places_named columns (sorting_names clauses)

abbrev pub partition_written : List Column → List Clause → Option ℕ
partition_written columns clauses = option_and_then (column_place columns) (partition_name clauses)

-- the schema that elements with these columns, an engine and clauses write, each name a column's (docs/definitions.md, "Schemas")
abbrev pub schema_written : List Column → CreateText → Schema
schema_written columns c = record {
  columns = columns;
  engine = engine_written columns (key_written columns c.clauses) (partition_written columns c.clauses) c.engine;
  key = key_written columns c.clauses;
  primary = places_named columns (primary_names c.clauses);
  partition = partition_written columns c.clauses;
  granularity = granularity_of c.clauses;
  indexes = indexes_written columns c.elements;
}

-- ---- a CREATE

-- the names of columns that a CREATE mentions, in the order of the text (docs/definitions.md, "Schemas")
abbrev pub names_of_text : CreateText → List (List ℕ)
names_of_text c = indexed_names c.elements ++ (names_of_engine c.engine ++ mentioned c.clauses)

-- the schema that a CREATE writes, each name a column's (docs/definitions.md, "Schemas")
abbrev pub schema_of_create : CreateText → Schema
schema_of_create c = schema_written (columns_of c.elements) c

-- each of the two keys names at least one column (docs/definitions.md, "Schemas")
pub record NamesKeys (clauses : List Clause) : Type 0 where
  pub sorting : 0 < length (sorting_names clauses)
  pub primary : 0 < length (primary_names clauses)
