-- the granules gone over have the answers of their blocks, and there is room for the others
use Rattle.std.proofs.Common.{◌≡◌, map, vec_capacity, vec_len}
use Rattle.std.specs.List.{range_with_len}
use Rattle.skip_index.proofs.Spread.{answer_of}
use Rattle.skip_index.proofs.choosing.spread.Given as goal

abbrev pub invariant-loop-granule : goal.invariant-loop-granule
invariant-loop-granule l = record {
  answers : l.spread.items ≡ map (answer_of l.answers l.untold l.index.span) (range_with_len 0 l.granule);
  count : vec_len l.spread ≡ l.granule;
  room : vec_capacity l.spread ≡ l.index.granules;
}
