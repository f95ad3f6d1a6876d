-- the states so far
use Rattle.std.proofs.Common.{◌≡◌, take}
use Rattle.std.specs.List.{filter}
use Rattle.part_history.specs.mt_model.Rules.{is_state}
use Rattle.mt_plain.proofs.collapsing.states_of.Given as goal

abbrev pub invariant-loop-row : goal.invariant-loop-row
invariant-loop-row l = l.states.items ≡ filter (is_state l.sign) (take l.row-index l.rows)
