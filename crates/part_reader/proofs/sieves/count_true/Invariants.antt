-- the true answers of those gone over
use Rattle.std.proofs.Common.{◌≡◌, ◌≤◌, take}
use Rattle.part_reader.specs.Sieves.{count_true}
use Rattle.part_reader.proofs.sieves.count_true.Given as goal

abbrev pub invariant-loop-is_true : goal.invariant-loop-is_true
invariant-loop-is_true l = record {
  count : l.count ≡ count_true (take l.is_true-index l.mask);
  few : l.count ≤ l.is_true-index;
}
