-- those of the lists so far that have rows of the key alone
use Rattle.std.proofs.Common.{◌≡◌, filter, take}
use Rattle.std.specs.List.{list_all}
use Rattle.mt_plain.specs.Lefts.{is_like}
use Rattle.mt_plain.proofs.lefts.seen_of_key.Given as goal

abbrev pub invariant-loop-list : goal.invariant-loop-list
invariant-loop-list l = l.outs.items ≡ filter (list_all (is_like l.schema l.row)) (take l.list-index l.list-items)
