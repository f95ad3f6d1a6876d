-- of the answers gone over the wanted side is kept, and there is room for the others
use Rattle.std.proofs.Common.{◌≡◌, length, map, take, vec_capacity, vec_len}
use Rattle.predicate.specs.declared.extent.Can.{Can}
use Rattle.primary_marks.proofs.choosing.choose.Given as goal

abbrev pub invariant-loop-answer : goal.invariant-loop-answer
invariant-loop-answer l = record {
  made : l.chosen.items ≡ map (λ (a : Can). a.yes) (take l.answer-index l.answer-items);
  count : vec_len l.chosen ≡ l.answer-index;
  room : vec_capacity l.chosen ≡ length l.answer-items;
}
