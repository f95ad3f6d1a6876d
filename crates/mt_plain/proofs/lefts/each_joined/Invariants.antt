-- the lists with those so far before them
use Rattle.std.proofs.Common.{◌≡◌, ◌++◌, flat_map, map, take}
use Rattle.mt_plain.proofs.lefts.each_joined.Given as goal

abbrev pub invariant-loop-first : goal.invariant-loop-first
invariant-loop-first l = l.outs.items ≡ flat_map (λ first. map (λ list. first ++ list) l.lists) (take l.first-index l.firsts)
