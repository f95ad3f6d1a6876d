-- Rows of two partitions, worked out.
use Rattle.std.proofs.Common.{◌≡◌, ℕ, [], ◌∷◌, Some, refl, ap}
use Rattle.mt_base.specs.declared.partition.Partition.TheVariants.{Number}
use Rattle.mt_values.specs.declared.schema.Schema.{Schema}
use Rattle.mt_values.specs.declared.value.Value.TheVariants.{UInt8}
use Rattle.mt_values.specs.Tables.{partition_by_column, partition_of}
use Rattle.mt_values.specs.Values.{Row}
use Rattle.mt_model.specs.Commands.{partitions_of, rows_in}

module _ (schema : Schema) (a b c : Row) (is : schema.partition ≡ Some 0) where
  first : (n : ℕ) (row : Row) → partition_of schema (UInt8 n ∷ row) ≡ Number n
  first n row = ap (λ o. partition_by_column o (UInt8 n ∷ row)) is

  pub worked_partitions : partitions_of schema ((UInt8 2 ∷ a) ∷ (UInt8 1 ∷ b) ∷ (UInt8 2 ∷ c) ∷ []) ≡ Number 2 ∷ Number 1 ∷ []
  worked_partitions = rw (first 2 a, first 1 b, first 2 c, first 2 a) refl

  pub worked_rows : rows_in schema (Number 2) ((UInt8 2 ∷ a) ∷ (UInt8 1 ∷ b) ∷ (UInt8 2 ∷ c) ∷ []) ≡ (UInt8 2 ∷ a) ∷ (UInt8 2 ∷ c) ∷ []
  worked_rows = rw (first 2 a, first 1 b, first 2 c) refl
