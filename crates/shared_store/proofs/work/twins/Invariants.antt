-- The copies so far equal the parts gone over.
use Rattle.std.proofs.Common.{◌≡◌, take}
use Rattle.shared_store.proofs.work.twins.Given as goal

abbrev pub invariant-loop-kept : goal.invariant-loop-kept
invariant-loop-kept g l = l.copies.items ≡ take l.kept-index l.parts
