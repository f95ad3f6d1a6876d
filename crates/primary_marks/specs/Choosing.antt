-- Which granules of a part a condition leaves, granule by granule (docs/definitions.md, "Boxes of granules").
use Rattle.std.specs.Prelude.{◌≡◌, ℕ, List, [], All, slice_index_or}
use Rattle.std.specs.List.Sorted.{IsSorted}
use Rattle.mt_base.specs.declared.partition.Partition.{Partition}
use Rattle.mt_values.specs.declared.schema.Schema.{Schema}
use Rattle.mt_values.specs.Grid.{AreRowsOf}
use Rattle.mt_values.specs.Schemas.{column_types}
use Rattle.mt_values.specs.Tables.{partition_of, sorting_cmp}
use Rattle.mt_values.specs.Values.{Row}

-- the key at a place; past the last there is none, and one without values stands (docs/formats.md, "Primary keys")
abbrev pub key_at : List Row → ℕ → Row
key_at keys place = slice_index_or keys place []

-- rows as a part keeps them: of the table's types, in the order of its sorting key, all of one partition (docs/formats.md, "Parts")
pub record ArePartOf (schema : Schema) (partition : Partition) (rows : List Row) : Type 0 where
  pub typed : AreRowsOf (column_types schema) rows
  pub rising : IsSorted (sorting_cmp schema) rows
  pub parted : All (λ row. partition_of schema row ≡ partition) rows
