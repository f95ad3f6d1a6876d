use Rattle.mt_plain.proofs.Aggregating.{only_given}
use Rattle.mt_plain.proofs.aggregates.joined_value.Goals as goal

pub returns : goal.returns
returns c = only_given c.in_ok-found.found _ c.in_ok-found.ensures
