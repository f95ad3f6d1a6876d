-- the choices so far that may be left
use Rattle.std.proofs.Common.{◌≡◌, take}
use Rattle.std.specs.List.{filter}
use Rattle.mt_plain.specs.Outcomes.{may_be_left}
use Rattle.mt_plain.proofs.collapsing.one_sign_left.Given as goal

abbrev pub invariant-loop-choice : goal.invariant-loop-choice
invariant-loop-choice l = l.outs.items ≡ filter (may_be_left l.sign l.sum) (take l.choice-index l.choice-items)
