-- the fewest answers so far
use Rattle.std.proofs.Common.{◌≡◌, ◌-◌, ℕ, length, min, take}
use Rattle.std.specs.List.{fold}
use Rattle.part_reader.specs.skip_index.declared.index.Index.{Index}
use Rattle.select_plan.proofs.choosing.answers.Given as goal

abbrev pub invariant-loop-index : goal.invariant-loop-index
invariant-loop-index l = l.answers ≡ fold (λ (n : ℕ) (index : Index). min n index.granules) (length l.loaded.marks - 1) (take l.index-index l.loaded.indexes)
