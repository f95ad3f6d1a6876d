-- the replies with the lists so far
use Rattle.std.proofs.Common.{◌≡◌, map, take}
use Rattle.mt_plain.specs.Lefts.{reply_of}
use Rattle.mt_plain.proofs.selecting.replies_of.Given as goal

abbrev pub invariant-loop-rows : goal.invariant-loop-rows
invariant-loop-rows l = l.replies.items ≡ map (reply_of l.query l.place) (take l.rows-index l.lefts)
