-- the copies so far equal the parts gone over
use Rattle.std.proofs.Common.{◌≡◌, ◌++◌, take}
use Rattle.part_set.proofs.tables.copy_to.Given as goal

abbrev pub invariant-loop-kept : goal.invariant-loop-kept
invariant-loop-kept g l = l.copies.items ≡ l.initial.copies.items ++ take l.kept-index l.parts
