-- what the skip indexes so far leave
use Rattle.std.proofs.Common.{◌≡◌, [], map, take}
use Rattle.std.specs.List.{fold}
use Rattle.mt_model.specs.predicate.Masks.{both}
use Rattle.part_reader.specs.skip_index.Choosing.{chosen_by}
use Rattle.part_reader.specs.skip_index.declared.index.Index.{Index}
use Rattle.select_plan.proofs.choosing.narrow.Given as goal

abbrev pub invariant-loop-index : goal.invariant-loop-index
invariant-loop-index l =
    l.chosen.items ≡ fold both l.fn.chosen.items (map (λ (index : Index). chosen_by index l.condition []) (take l.index-index l.loaded.indexes))
