-- the rows of the granules gone over
use Rattle.std.proofs.Common.{◌≡◌, take}
use Rattle.part_reader.specs.Granules.{chosen_count}
use Rattle.part_reader.proofs.granules.count_chosen.Given as goal

abbrev pub invariant-loop-granule : goal.invariant-loop-granule
invariant-loop-granule l = record {
  rows : l.rows ≡ chosen_count l.loaded.schema.granularity (take l.granule l.chosen) l.loaded.manifest.rows;
}
