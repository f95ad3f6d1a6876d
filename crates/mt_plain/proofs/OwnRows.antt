-- Those of an INSERT's rows that are of one partition.
use Rattle.std.proofs.Common.{◌≡◌, ◌≤◌, Bool, true, false, cond, List, [], ◌∷◌, length, sym, subst, arith}
use Rattle.std.proofs.lemmas.List.Elements.{All-filter}
use Rattle.mt_base.specs.declared.partition.Partition.{Partition}
use Rattle.mt_values.specs.declared.schema.Schema.{Schema}
use Rattle.mt_values.specs.declared.value.ColType.{ColType}
use Rattle.mt_values.specs.Grid.{AreRowsOf}
use Rattle.mt_values.specs.Tables.{partition_of, same_partition}
use Rattle.mt_values.specs.Values.{Row, types_of}
use Rattle.part_history.specs.mt_model.Commands.{rows_in}
use Rattle.part_history.specs.mt_model.History.{column_types}

-- those of some rows that are of a partition are rows of the same types
pub own_typed : (schema : Schema) (partition : Partition) (rows own : List Row) (types : List ColType) → AreRowsOf (column_types schema) rows → own ≡ rows_in schema partition rows → types ≡ column_types schema → AreRowsOf types own
own_typed schema partition rows own types typed is kinds =
    subst (λ (ts : List ColType). AreRowsOf ts own) (sym kinds)
    (subst (AreRowsOf (column_types schema)) (sym is) (All-filter (λ (row : Row). same_partition (partition_of schema row) partition) (λ (row : Row). types_of row ≡ column_types schema) rows typed))

pub own_fewer : (schema : Schema) (partition : Partition) (rows : List Row) → length (rows_in schema partition rows) ≤ length rows
own_fewer schema partition [] = omega arith
own_fewer schema partition (row ∷ rows) = by (own_fewer schema partition rows) (same_partition (partition_of schema row) partition)
  where
    by : length (rows_in schema partition rows) ≤ length rows → (b : Bool) → length (cond b (row ∷ rows_in schema partition rows) (rows_in schema partition rows)) ≤ length (row ∷ rows)
    by fewer true = omega arith
    by fewer false = omega arith
