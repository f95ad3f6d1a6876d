-- the rest decides
use Rattle.std.proofs.Common.{◌≡◌, drop}
use Rattle.part_history.specs.mt_model.Rules.{alternate, alternate_from}
use Rattle.mt_plain.proofs.collapsing.alternate.Given as goal

abbrev pub invariant-loop-row : goal.invariant-loop-row
invariant-loop-row l = alternate_from l.state l.sign (drop l.row-index l.rows) ≡ alternate l.sign l.rows
