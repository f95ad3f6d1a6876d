-- the indexes gone over are built
use Rattle.std.proofs.Common.{◌≡◌, [], map}
use Rattle.std.specs.List.{range_with_len}
use Rattle.skip_index.specs.Blocks.{index_of}
use Rattle.part_writer.proofs.indexes.empty_indexes.Given as goal

abbrev pub invariant-loop-place : goal.invariant-loop-place
invariant-loop-place l = l.indexes.items ≡ map (λ n. index_of l.schema n []) (range_with_len 0 l.place)
