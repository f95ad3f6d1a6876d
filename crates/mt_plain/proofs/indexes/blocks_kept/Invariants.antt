-- what is kept of the blocks so far
use Rattle.std.proofs.Common.{◌≡◌, ◌*◌, ℕ, drop, map, take}
use Rattle.std.specs.List.{range_with_len}
use Rattle.part_history.specs.predicate.Indexes.{kept_of}
use Rattle.mt_plain.proofs.indexes.blocks_kept.Given as goal

abbrev pub invariant-loop-block : goal.invariant-loop-block
invariant-loop-block l = l.kept.items ≡ map (kept_of l.index.kind) (map (λ (b : ℕ). take l.size (drop (l.size * b) l.values)) (range_with_len 0 l.block))
