-- those so far are added
use Rattle.std.proofs.Common.{take}
use Rattle.std.specs.List.{Contains}
use Rattle.mt_plain.specs.Outcomes.{AddsExactly}
use Rattle.mt_plain.proofs.merges.add_each.Given as goal

abbrev pub invariant-loop-list : goal.invariant-loop-list
invariant-loop-list l = AddsExactly l.fn.found.items l.found.items (Contains (take l.list-index l.more))
