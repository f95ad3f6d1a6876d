use Rattle.mt_outside.proofs.Changes.{before_clock-all, at_clock-none}
use Rattle.mt_outside.proofs.laws.syncs_settle.Goals as goal

pub returns : goal.returns
returns c = λ told clock names by. (
  (λ image. rw (before_clock-all told clock by, at_clock-none told clock by) at image),
  (λ kept. rw (before_clock-all told clock by, at_clock-none told clock by) kept),
)
