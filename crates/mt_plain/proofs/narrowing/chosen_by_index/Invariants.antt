-- the answers so far
use Rattle.std.proofs.Common.{◌≡◌}
use Rattle.part_history.specs.predicate.Indexes.{chosen_by_blocks}
use Rattle.mt_plain.proofs.narrowing.chosen_by_index.Given as goal

abbrev pub invariant-loop-granule : goal.invariant-loop-granule
invariant-loop-granule l = l.chosen.items ≡ chosen_by_blocks l.condition l.index.column l.index.granularity l.granule l.kept.items
