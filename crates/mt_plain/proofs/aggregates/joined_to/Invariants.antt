-- the values so far
use Rattle.std.proofs.Common.{◌≡◌, take}
use Rattle.std.specs.List.{fold}
use Rattle.part_history.specs.mt_model.Rules.{joined_bits}
use Rattle.mt_plain.specs.Outcomes.{join_by}
use Rattle.mt_plain.proofs.aggregates.joined_to.Given as goal

abbrev pub invariant-loop-other : goal.invariant-loop-other
invariant-loop-other l = l.joined ≡ fold (joined_bits (join_by l.fn.function)) l.fn.first (take l.other-index l.others)
