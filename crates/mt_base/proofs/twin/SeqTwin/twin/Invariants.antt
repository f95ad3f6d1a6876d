-- The copy so far equals the items gone over.
use Rattle.std.proofs.Common.{◌≡◌, take}
use Rattle.mt_base.proofs.twin.SeqTwin.twin.Given as goal

abbrev pub invariant-loop-item : goal.invariant-loop-item
invariant-loop-item g l = l.copy ≡ take l.item-index l.item-items
