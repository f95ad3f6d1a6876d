-- none of the parts gone over bears a mark
use Rattle.std.proofs.Common.{◌≡◌, false}
use Rattle.std.specs.List.{AllWithin}
use Rattle.merge_select.proofs.whole.first_busy.Given as goal

abbrev pub invariant-loop-kept : goal.invariant-loop-kept
invariant-loop-kept g l = AllWithin (λ kept. kept.busy ≡ false) l.parts 0 l.kept-index
