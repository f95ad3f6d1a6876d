-- the answers so far, and those of the granules that are left
use Rattle.std.proofs.Common.{◌≡◌, ◌++◌, drop}
use Rattle.part_history.specs.predicate.Granules.{chosen_in}
use Rattle.mt_plain.proofs.counting.chosen_in.Given as goal

abbrev pub invariant-loop-granule : goal.invariant-loop-granule
invariant-loop-granule l =
    l.chosen.items ++ chosen_in l.schema l.partition l.condition (drop l.granule l.keys) ≡ chosen_in l.schema l.partition l.condition l.keys
