-- What an EXPLAIN answers (docs/definitions-of-runs.md, "Explained reads"; ClickHouse, EXPLAIN: indexes).
use Rattle.std.specs.Prelude.{◌≡◌, ◌&&◌, ◌++◌, ◌∷◌, [], ℕ, Bool, true, false, not, List, All, Ok, Some, codes, filter, length, nat_lt}
use Rattle.std.specs.Fmt.{decimal}
use Rattle.std.specs.List.{count_by, list_any, sum_by}
use Rattle.mt_base.specs.declared.partition.Partition.{Partition}
use Rattle.mt_values.specs.declared.expr.Test.{Test}
use Rattle.mt_values.specs.declared.mutation.Mutation.{Mutation}
use Rattle.mt_values.specs.declared.schema.Schema.{Schema}
use Rattle.mt_values.specs.declared.schema.SkipIndex.{SkipIndex}
use Rattle.mt_values.specs.declared.statement.SelectText.{SelectText}
use Rattle.mt_values.specs.Changes.{is_assigned}
use Rattle.mt_values.specs.Conditions.{Condition}
use Rattle.mt_values.specs.Tables.{same_partition}
use Rattle.mt_values.specs.Values.{Row}
use Rattle.mt_values.specs.Granules.{mark_keys}
use Rattle.predicate.specs.Granules.{chosen_in}
use Rattle.predicate.specs.Indexes.{chosen_by_indexes}
use Rattle.mt_model.specs.declared.counts.Counts.{Counts}
use Rattle.mt_model.specs.declared.query.Query.{Query}
use Rattle.mt_model.specs.History.{History, schema_of}
use Rattle.mt_model.specs.Numbers.{IsNumberOfInsert, Reach, lies_within, mutations_in}
use Rattle.mt_model.specs.Queries.{query_of}
use Rattle.mt_model.specs.Reaches.{ReachStands}

-- Rows of a table that are kept together: those of the INSERTs into one partition whose numbers lie in a range, as merges may have
-- left them. The version is the number up to which mutations were applied (ClickHouse, MergeTree: data storage;
-- docs/definitions-of-runs.md, "Explained reads").
pub record Portion : Type 0 where
  pub partition : Partition
  pub least : ℕ
  pub greatest : ℕ
  pub version : ℕ
  pub rows : List Row

-- whether a number of the partition lies in the portion's range (docs/definitions-of-runs.md, "Explained reads")
abbrev pub has_number : Partition → ℕ → Portion → Bool
has_number partition n p = same_partition p.partition partition && lies_within p.least p.greatest n

-- what a portion of a table reaches (docs/definitions-of-runs.md, "Explained reads")
abbrev pub reach_of_portion : List ℕ → Portion → Reach
reach_of_portion table p =
    record { table = table; partition = p.partition; least = p.least; greatest = p.greatest; version = p.version }

-- a portion stands for INSERTs into a table: its rows stand for what it reaches (docs/definitions-of-runs.md, "Explained reads")
abbrev pub PortionStands : History → List ℕ → Schema → Portion → Type 0
PortionStands h table schema p = ReachStands h schema (reach_of_portion table p) p.rows

-- portions stand for a table: each INSERT into it is in exactly one (docs/definitions-of-runs.md, "Explained reads")
pub record PortionsStand (h : History) (table : List ℕ) (schema : Schema) (ps : List Portion) : Type 0 where
  pub each : All (PortionStands h table schema) ps
  pub once : (partition : Partition) (n : ℕ) → IsNumberOfInsert table partition n h → count_by (has_number partition n) ps ≡ 1

-- the mutations for which rows wait that were changed by those up to a version: the later ones (docs/definitions-of-runs.md, "Explained reads")
abbrev pub pending_above : List Mutation → ℕ → List Mutation
pending_above mutations version = filter (λ (m : Mutation). nat_lt version m.number) mutations

-- the skip indexes whose column none of the mutations assigns: what is kept by the others is of values that rows no longer have (docs/definitions-of-runs.md, "Explained reads")
abbrev pub indexes_beside : List Mutation → List SkipIndex → List SkipIndex
indexes_beside mutations indexes = filter (λ (i : SkipIndex). not (is_assigned mutations i.column)) indexes

-- the skip indexes by which rows of a version are read (docs/definitions-of-runs.md, "Explained reads")
abbrev pub pruning_indexes : Schema → List Mutation → ℕ → List SkipIndex
pruning_indexes schema mutations version = indexes_beside (pending_above mutations version) schema.indexes

-- Which granules of a portion's rows a condition leaves, where these are the table's mutations: by their marks and, without FINAL, by each
-- skip index whose column no mutation assigns for which the rows wait. No mutation assigns a column of the marks (docs/definitions.md,
-- "Boxes of skip indexes"; docs/definitions-of-runs.md, "Explained reads"; ClickHouse, SELECT: FINAL).
abbrev pub chosen_granules : Schema → List Mutation → Bool → Condition Test → Portion → List Bool
chosen_granules schema mutations true c p = chosen_in schema p.partition c (mark_keys schema.primary schema.granularity p.rows)
chosen_granules schema mutations false c p =
    chosen_by_indexes schema p.partition c p.rows (pruning_indexes schema mutations p.version)

-- whether a granule of a portion is chosen (docs/definitions-of-runs.md, "Explained reads")
abbrev pub is_chosen : Schema → List Mutation → Bool → Condition Test → Portion → Bool
is_chosen schema mutations is_final c p = list_any (λ chosen. chosen) (chosen_granules schema mutations is_final c p)

-- the numbers of an EXPLAIN over portions of a table with these mutations (docs/definitions-of-runs.md, "Explained reads")
abbrev pub counts_of : Schema → List Mutation → Bool → Condition Test → List Portion → Counts
counts_of schema mutations is_final c ps = record {
  chosen_parts = count_by (is_chosen schema mutations is_final c) ps;
  parts = length ps;
  chosen_granules = sum_by (λ p. count_by (λ chosen. chosen) (chosen_granules schema mutations is_final c p)) ps;
  granules = sum_by (λ p. length (chosen_granules schema mutations is_final c p)) ps;
}

-- the line of an EXPLAIN (docs/replies.md, "Replies")
abbrev pub explain_line : Counts → ℕ → List ℕ
explain_line n h =
    codes "PARTS " ++ decimal n.chosen_parts ++ codes "/" ++ decimal n.parts
    ++ codes " GRANULES " ++ decimal n.chosen_granules ++ codes "/" ++ decimal n.granules
    ++ codes " PREFIX " ++ decimal h ++ 10 ∷ []

-- an EXPLAIN's reply at a place has the numbers of portions that stand for the history up to it, by the mutations in it (docs/definitions-of-runs.md, "Explained reads")
pub record Explains (h : History) (s : SelectText) (to : ℕ) (reply : List ℕ) : Type 0 where
  pub schema : Schema
  pub there : schema_of s.table h ≡ Some schema
  pub query : Query
  pub asked : query_of schema.columns s ≡ Ok query
  pub portions : List Portion
  pub stand : PortionsStand h s.table schema portions
  pub reply_is : reply ≡ explain_line (counts_of schema (mutations_in s.table h) s.is_final query.condition portions) to
