-- What a SELECT answers (docs/definitions-of-runs.md, "Answers"; ClickHouse, SELECT).
use Rattle.std.specs.Prelude.{◌≡◌, ℕ, List, filter, map, Ok}
use Rattle.std.specs.List.Sorted.{IsPermutation, IsSorted}
use Rattle.mt_values.specs.declared.schema.Schema.{Schema}
use Rattle.mt_values.specs.declared.statement.SelectText.{SelectText}
use Rattle.mt_values.specs.Values.{Row}
use Rattle.mt_values.specs.Order.{key_of, row_cmp}
use Rattle.mt_values.specs.Printing.{line}
use Rattle.mt_values.specs.Tests.{eval}
use Rattle.mt_model.specs.History.{History}
use Rattle.mt_model.specs.Live.{live}
use Rattle.mt_model.specs.Final.{Sees}
use Rattle.mt_model.specs.declared.query.Query.{Query}
use Rattle.mt_model.specs.Queries.{query_of}

-- the rows' lines, sorted by their columns from left to right, each row as often as it occurs (docs/definitions-of-runs.md, "Answers")
pub record Prints (rows : List Row) (lines : List (List ℕ)) : Type 0 where
  pub order : List Row
  pub same : IsPermutation rows order
  pub rising : IsSorted row_cmp order
  pub lines_are : lines ≡ map line order

-- the lines of a SELECT: its columns of those rows that meet its condition, of what it sees of its table's live rows (docs/definitions-of-runs.md, "Answers"; ClickHouse, SELECT: FINAL, WHERE)
pub record Answer (h : History) (schema : Schema) (s : SelectText) (lines : List (List ℕ)) : Type 0 where
  pub query : Query
  pub asked : query_of schema.columns s ≡ Ok query
  pub rows : List Row
  pub seen : Sees schema s.is_final (live s.table schema h) rows
  pub prints : Prints (map (key_of query.places) (filter (eval query.condition) rows)) lines
