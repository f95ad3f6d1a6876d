-- What a SELECT may see of a table's rows, as a list of lists (docs/definitions.md, "Partly folded rows"; docs/engines.md, "FINAL").
use Rattle.std.specs.Prelude.{◌&&◌, ℕ, Bool, true, false, List, filter, map, not}
use Rattle.std.specs.List.{Contains}
use Rattle.std.specs.List.Sorted.{IsPermutation}
use Rattle.std.specs.Ordering.{is_eq}
use Rattle.mt_values.specs.declared.schema.Schema.{Schema}
use Rattle.mt_values.specs.Order.{key_of, row_cmp}
use Rattle.mt_values.specs.Printing.{line}
use Rattle.mt_values.specs.Tables.{partition_of, same_partition, sorting_cmp}
use Rattle.mt_values.specs.Tests.{eval}
use Rattle.mt_values.specs.Values.{Row}
use Rattle.part_history.specs.mt_model.declared.query.Query.{Query}
use Rattle.part_history.specs.mt_model.Final.{Sees, TableFolds}
use Rattle.part_history.specs.mt_model.Folding.{ComesFrom, Leaves}
use Rattle.part_history.specs.mt_model.Live.{sorted}
use Rattle.part_history.specs.mt_model.Partial.{TableRun}
use Rattle.part_history.specs.mt_model.Reply.{rows_reply}

-- whether a row is of the partition and key of another
abbrev pub is_like : Schema → Row → Row → Bool
is_like schema row r = same_partition (partition_of schema r) (partition_of schema row) && is_eq (sorting_cmp schema row r)

-- the rows of other partitions and keys than this row's
abbrev pub unlike : Schema → Row → List Row → List Row
unlike schema row rows = filter (λ r. not (is_like schema row r)) rows

-- what may be seen of the rows of one key: with FINAL their fold, without it what merges made of them
abbrev pub KeySees : Schema → Bool → List Row → List Row → Type 0
KeySees schema true rows out = Leaves (TableFolds schema) rows out
KeySees schema false rows out = ComesFrom (TableRun schema) rows out

-- a SELECT may see each of these lists, and all that it may see is one of these in another order
pub record AreSeen (schema : Schema) (is_final : Bool) (rows : List Row) (lefts : List (List Row)) : Type 0 where
  pub each : (x : List Row) → Contains lefts x → Sees schema is_final rows x
  pub all : (x : List Row) → Sees schema is_final rows x → (y : List Row) × Contains lefts y × IsPermutation x y

-- the lines of a query over rows
abbrev pub lines_of : Query → List Row → List (List ℕ)
lines_of query rows = map line (sorted row_cmp (map (key_of query.places) (filter (eval query.condition) rows)))

-- the reply with them
abbrev pub reply_of : Query → ℕ → List Row → List ℕ
reply_of query place rows = rows_reply (lines_of query rows) place
