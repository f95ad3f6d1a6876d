-- none so far is it
use Rattle.std.proofs.Common.{take}
use Rattle.std.specs.List.{Contains}
use Rattle.mt_plain.proofs.merges.is_among.Given as goal

abbrev pub invariant-loop-list : goal.invariant-loop-list
invariant-loop-list l = Contains (take l.list-index l.lists) l.rows → ⊥
