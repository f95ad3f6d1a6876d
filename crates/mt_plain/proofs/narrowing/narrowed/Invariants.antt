-- what the indexes so far leave
use Rattle.std.proofs.Common.{◌≡◌, map, take}
use Rattle.std.specs.List.{fold}
use Rattle.part_history.specs.predicate.Masks.{both}
use Rattle.part_history.specs.predicate.Indexes.{chosen_by_index}
use Rattle.mt_plain.proofs.narrowing.narrowed.Given as goal

abbrev pub invariant-loop-index : goal.invariant-loop-index
invariant-loop-index l = l.left.items ≡ fold both l.fn.chosen.items (map (chosen_by_index l.schema l.condition l.rows) (take l.index-index l.indexes))
