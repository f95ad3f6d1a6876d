-- the rows so far are
use Rattle.std.proofs.Common.{◌≡◌, take, true}
use Rattle.std.specs.List.{list_all}
use Rattle.mt_plain.specs.Lefts.{is_like}
use Rattle.mt_plain.proofs.lefts.are_like.Given as goal

abbrev pub invariant-loop-other : goal.invariant-loop-other
invariant-loop-other l = list_all (is_like l.schema l.row) (take l.other-index l.rows) ≡ true
