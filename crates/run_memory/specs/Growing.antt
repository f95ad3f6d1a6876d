-- Tables whose parts can be written.
use Rattle.std.specs.Prelude.{◌≡◌, ◌<◌, false, length}
use Rattle.mt_values.specs.declared.schema.Schema.{Schema}
use Rattle.mt_values.specs.declared.schema.SkipIndex.{SkipIndex}
use Rattle.mt_values.specs.Schemas.{is_large}

-- a skip index is of a column of the table, its blocks have some granules, and 32 bits count the values of a set (docs/formats.md, "Skip indexes")
pub record HasBlocks (schema : Schema) (index : SkipIndex) : Type 0 where
  pub own : index.column < length schema.columns
  pub some : 0 < index.granularity
  pub few : is_large index.kind ≡ false
