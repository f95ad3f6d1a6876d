-- What skip indexes keep of the rows of a part, and which granules a condition leaves by it (docs/definitions.md, "Boxes of skip indexes").
use Rattle.std.specs.Prelude.{ℕ, ◌*◌, ◌/◌, Bool, nat_eq, nat_le, List, [], ◌∷◌, ◌++◌, drop, fold, length, map, slice_index_or, take, if◌then◌else◌}
use Rattle.std.specs.Int.{div_ceil}
use Rattle.std.specs.List.{list_any, range_with_len}
use Rattle.std.specs.Ordering.{is_eq, is_gt, is_lt}
use Rattle.mt_base.specs.Limits.{set_limit}
use Rattle.mt_base.specs.declared.partition.Partition.{Partition}
use Rattle.mt_values.specs.declared.expr.Test.{Test}
use Rattle.mt_values.specs.declared.schema.IndexKind.{IndexKind}
use Rattle.mt_values.specs.declared.schema.IndexKind.TheVariants as kind
use Rattle.mt_values.specs.declared.schema.Schema.{Schema}
use Rattle.mt_values.specs.declared.schema.SkipIndex.{SkipIndex}
use Rattle.mt_values.specs.declared.value.Value.{Value}
use Rattle.mt_values.specs.Conditions.{Condition}
use Rattle.mt_values.specs.Granules.{granules, mark_keys}
use Rattle.mt_values.specs.Grid.{column_of}
use Rattle.mt_values.specs.Order.{value_cmp}
use Rattle.mt_values.specs.Values.{Row}
use Rattle.predicate.specs.Boxes.{can, only_column}
use Rattle.predicate.specs.Granules.{chosen_in}
use Rattle.predicate.specs.Masks.{both}
use Rattle.predicate.specs.declared.extent.Known.{Known}
use Rattle.predicate.specs.declared.extent.Known.TheVariants as known

-- a list parted into blocks of this many items, the last perhaps shorter (ClickHouse, MergeTree: "Data Skipping Indexes"; docs/formats.md, "Skip indexes")
abbrev pub blocks_of : {X : Type 0} → ℕ → List X → List (List X)
blocks_of size xs = map (λ block. take size (drop (size * block) xs)) (range_with_len 0 (div_ceil (length xs) size))

-- the lesser of two values (docs/definitions.md, "Order")
abbrev pub lesser : Value → Value → Value
lesser x y = if is_lt (value_cmp y x) then y else x

-- the greater of two values (docs/definitions.md, "Order")
abbrev pub greater : Value → Value → Value
greater x y = if is_gt (value_cmp y x) then y else x

-- the least and the greatest of values; of no values nothing is kept (ClickHouse, MergeTree: "Skip Index Types", minmax; docs/formats.md, "Skip indexes")
abbrev pub range_of : List Value → Known
range_of [] = known.Unknown
range_of (v ∷ vs) = known.Range (fold lesser v vs) (fold greater v vs)

-- both are one value (docs/definitions.md, "Order")
abbrev pub same_value : Value → Value → Bool
same_value x y = is_eq (value_cmp x y)

-- values with one more, where it is none of them (docs/formats.md, "Skip indexes")
abbrev pub with_new : List Value → Value → List Value
with_new vs v = if list_any (same_value v) vs then vs else vs ++ v ∷ []

-- each value once, in the order in which they first occur (docs/formats.md, "Skip indexes")
abbrev pub distinct_of : List Value → List Value
distinct_of values = fold with_new [] values

-- the most values that a set keeps of a block: its limit, where 0 stands for 4294967295 (ClickHouse, MergeTree: "Skip Index Types", set; docs/formats.md, "Skip indexes")
abbrev pub most_kept : ℕ → ℕ
most_kept limit = if nat_eq limit 0 then set_limit else limit

-- each value once, where they are no more than a set keeps (ClickHouse, MergeTree: "Skip Index Types", set; docs/formats.md, "Skip indexes")
abbrev pub set_of : ℕ → List Value → Known
set_of limit values = if nat_le (length (distinct_of values)) (most_kept limit) then known.List (distinct_of values) else known.Unknown

-- what a skip index keeps of the values of a block (ClickHouse, MergeTree: "Skip Index Types"; docs/formats.md, "Skip indexes")
abbrev pub kept_of : IndexKind → List Value → Known
kept_of kind.MinMax values = range_of values
kept_of (kind.Set limit) values = set_of limit values

-- what a skip index keeps of the rows of a part, block by block (docs/formats.md, "Skip indexes")
abbrev pub blocks_kept : Schema → SkipIndex → List Row → List Known
blocks_kept schema i rows = map (kept_of i.kind) (blocks_of (schema.granularity * i.granularity) (column_of i.column rows))

-- whether each granule is chosen by what is kept of a column's blocks: the condition may be true in the box of its block (docs/definitions.md, "Boxes of skip indexes")
abbrev pub chosen_by_blocks : Condition Test → ℕ → ℕ → ℕ → List Known → List Bool
chosen_by_blocks c column span granules blocks =
    map (λ granule. (can c (only_column column (slice_index_or blocks (granule / span) known.Unknown))).yes) (range_with_len 0 granules)

-- whether a skip index leaves each granule of a part with these rows (docs/definitions.md, "Boxes of skip indexes")
abbrev pub chosen_by_index : Schema → Condition Test → List Row → SkipIndex → List Bool
chosen_by_index schema c rows i =
    chosen_by_blocks c i.column i.granularity (granules schema.granularity (length rows)) (blocks_kept schema i rows)

-- which granules of a part with these rows a condition leaves: those that its marks choose, and each of these skip indexes (docs/definitions.md, "Boxes of skip indexes")
abbrev pub chosen_by_indexes : Schema → Partition → Condition Test → List Row → List SkipIndex → List Bool
chosen_by_indexes schema partition c rows indexes =
    fold both (chosen_in schema partition c (mark_keys schema.primary schema.granularity rows)) (map (chosen_by_index schema c rows) indexes)

-- the same by all skip indexes of the table (docs/definitions.md, "Boxes of skip indexes")
abbrev pub chosen_of_rows : Schema → Partition → Condition Test → List Row → List Bool
chosen_of_rows schema partition c rows = chosen_by_indexes schema partition c rows schema.indexes
