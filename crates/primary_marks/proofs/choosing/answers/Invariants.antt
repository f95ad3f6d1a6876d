-- the granules gone over have their answers, and there is room for the others
use Rattle.std.proofs.Common.{◌≡◌, map, vec_capacity, vec_len}
use Rattle.std.specs.List.{range_with_len}
use Rattle.primary_marks.proofs.GranuleBoxes.{answer_at}
use Rattle.primary_marks.proofs.choosing.answers.Given as goal

abbrev pub invariant-loop-granule : goal.invariant-loop-granule
invariant-loop-granule l = record {
  answers : l.answers.items ≡ map (answer_at l.part.schema.now l.part.partition.now l.condition l.part.marks.now) (range_with_len 0 l.granule);
  count : vec_len l.answers ≡ l.granule;
  room : vec_capacity l.answers ≡ l.granules;
}
