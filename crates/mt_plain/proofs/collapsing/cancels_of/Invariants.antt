-- the cancels so far
use Rattle.std.proofs.Common.{◌≡◌, take}
use Rattle.std.specs.List.{filter}
use Rattle.part_history.specs.mt_model.Rules.{is_cancel}
use Rattle.mt_plain.proofs.collapsing.cancels_of.Given as goal

abbrev pub invariant-loop-row : goal.invariant-loop-row
invariant-loop-row l = l.cancels.items ≡ filter (is_cancel l.sign) (take l.row-index l.rows)
