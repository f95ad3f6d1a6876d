-- the blocks gone over have their answers, and there is room for the others
use Rattle.std.proofs.Common.{◌≡◌, length, map, take, vec_capacity, vec_len}
use Rattle.predicate.specs.Boxes.{can, only_column}
use Rattle.skip_index.proofs.choosing.block_answers.Given as goal

abbrev pub invariant-loop-known : goal.invariant-loop-known
invariant-loop-known l = record {
  answers : l.answers.items ≡ map (λ k. (can l.condition (only_column l.index.column k)).yes) (take l.known-index l.index.blocks);
  count : vec_len l.answers ≡ l.known-index;
  room : vec_capacity l.answers ≡ length l.index.blocks;
}
