-- those of the rows so far
use Rattle.std.proofs.Common.{◌≡◌, filter, take}
use Rattle.mt_plain.specs.Lefts.{is_like}
use Rattle.mt_plain.proofs.lefts.like.Given as goal

abbrev pub invariant-loop-other : goal.invariant-loop-other
invariant-loop-other l = l.own.items ≡ filter (is_like l.schema l.row) (take l.other-index l.rows)
