-- the indexes so far, and those that are left of the rest
use Rattle.std.proofs.Common.{◌≡◌, [], drop}
use Rattle.part_history.specs.mt_model.Explain.{pending_above}
use Rattle.mt_plain.specs.Portions.{with_indexes}
use Rattle.mt_plain.proofs.mutations.indexes_beside.Given as goal

abbrev pub invariant-loop-index : goal.invariant-loop-index
invariant-loop-index l =
    with_indexes (pending_above l.mutations l.version) l.left.items (drop l.index-index l.indexes) ≡ with_indexes (pending_above l.mutations l.version) [] l.indexes
