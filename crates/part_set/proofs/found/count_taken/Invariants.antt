-- as many as were gone over begin
use Rattle.std.proofs.Common.{◌≡◌, ◌≤◌, length}
use Rattle.part_set.specs.Runs.{Begins}
use Rattle.part_set.proofs.found.count_taken.Given as goal

abbrev pub invariant-loop-kept : goal.invariant-loop-kept
invariant-loop-kept g l = record {
  can_next : (goal.iterator-loop-kept g).can_next l.kept-iterator;
  is_finite : (goal.iterator-loop-kept g).is_finite l.kept-iterator;
  count : l.count ≡ length l.yielded;
  within : l.count ≤ length l.sources;
  begins : Begins l.count l.sources l.parts;
}
