-- the lists so far
use Rattle.std.proofs.Common.{◌≡◌, ◌++◌, map, take}
use Rattle.mt_plain.proofs.lefts.joined.Given as goal

abbrev pub invariant-loop-list : goal.invariant-loop-list
invariant-loop-list l = l.outs.items ≡ map (λ list. l.front ++ list) (take l.list-index l.lists)
