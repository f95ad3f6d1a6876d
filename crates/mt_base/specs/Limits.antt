-- The bounds that the program keeps (docs/replies.md, "Refusals").
use Rattle.std.specs.Prelude.{ℕ}

-- no more tables than this are made in a root
abbrev pub table_limit : ℕ
table_limit = 64

-- a root of more tables than this is not opened
abbrev pub root_table_limit : ℕ
root_table_limit = 65536

-- a table has no more columns than this
abbrev pub column_limit : ℕ
column_limit = 64

-- a partition of a table has no more parts than this
abbrev pub part_limit : ℕ
part_limit = 3000

-- the commands of a table have no greater number than this
abbrev pub number_limit : ℕ
number_limit = 4294967295

-- a part has no greater level than this
abbrev pub level_limit : ℕ
level_limit = 4294967295

-- an INSERT has no more rows than this
abbrev pub row_limit : ℕ
row_limit = 1048576

-- a String has no more bytes than this
abbrev pub text_limit : ℕ
text_limit = 1048576

-- a statement has no more bytes than this, from its first token up to its semicolon
abbrev pub statement_limit : ℕ
statement_limit = 1048576

-- a name has no more bytes than this
abbrev pub name_limit : ℕ
name_limit = 64

-- a granule has no more rows than this, and a block of a skip index no more granules (ClickHouse, MergeTree: index_granularity; docs/definitions.md, "Schemas")
abbrev pub granularity_limit : ℕ
granularity_limit = 65536

-- how many rows a granule has where a table's statement does not say it (ClickHouse, MergeTree: index_granularity)
abbrev pub default_granularity : ℕ
default_granularity = 8192

-- a table has no more skip indexes than this
abbrev pub index_limit : ℕ
index_limit = 8

-- a skip index of the distinct values keeps no more values of a block than this (ClickHouse, MergeTree: "Skip Index Types", set; docs/definitions.md, "Schemas")
abbrev pub set_limit : ℕ
set_limit = 4294967295

-- the most parentheses and NOTs of a condition that are open at once
abbrev pub depth_limit : ℕ
depth_limit = 64
