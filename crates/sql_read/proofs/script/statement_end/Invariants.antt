use Rattle.std.proofs.Common.{◌≡◌, take, drop}
use Rattle.mt_values.specs.declared.script.Place.TheVariants.{Outside}
use Rattle.mt_values.specs.Script.{ended_from}
use Rattle.mt_values.proofs.Fronts.{parted}
use Rattle.sql_read.proofs.script.statement_end.Given as goal

abbrev pub invariant-loop-at : goal.invariant-loop-at
invariant-loop-at l = parted (take l.at l.text) (ended_from l.place (drop l.at l.text)) ≡ ended_from Outside l.text
