-- the indexes gone over have the granule, and the others are as they were
use Rattle.std.proofs.Common.{◌≡◌, List}
use Rattle.mt_values.specs.Grid.{AreRowsOf, picked}
use Rattle.mt_values.specs.Schemas.{column_types}
use Rattle.mt_values.specs.Values.{Row}
use Rattle.skip_index.specs.Blocks.{AreWhole}
use Rattle.part_writer.specs.PartFiles.{indexes_of}
use Rattle.part_writer.proofs.GrownIndexes.{indexes_below}
use Rattle.part_writer.proofs.indexes.add_granules.Given as goal

abbrev pub invariant-loop-place : goal.invariant-loop-place
invariant-loop-place l =
    (rows : List Row) → AreRowsOf (column_types l.schema) rows → AreWhole l.schema.granularity rows → l.initial.indexes ≡ indexes_of l.schema rows → l.indexes ≡ indexes_below l.schema rows (picked l.block.rows l.order) l.place
