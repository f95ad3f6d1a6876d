-- no mutation parts two of the parts gone over that follow each other
use Rattle.std.proofs.Common.{◌≡◌, ℕ, ◌+◌, ◌<◌, slice_get, Some}
use Rattle.mutation_queue.specs.part_set.part_name.Pending.{MayMerge}
use Rattle.mutation_queue.specs.Queue.{mutations_of}
use Rattle.mutation_queue.specs.part_set.declared.kept.Kept.{Kept}
use Rattle.merge_select.proofs.whole.may_all_merge.Given as goal

abbrev pub invariant-loop-next : goal.invariant-loop-next
invariant-loop-next g l = (k : ℕ) (a b : Kept g.row.P.Denot) → k + 1 < l.next → slice_get l.parts k ≡ Some a → slice_get l.parts (k + 1) ≡ Some b → MayMerge (mutations_of l.queue l.table) a.name b.name
