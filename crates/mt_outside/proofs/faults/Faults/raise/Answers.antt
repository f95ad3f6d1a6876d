use Rattle.std.proofs.Common.{le_refl}
use Rattle.mt_outside.proofs.faults.Faults.raise.Goals as goal

pub returns-clause-count : goal.returns-clause-count
returns-clause-count c = c.saturating_add-self.ensures

pub returns-clause-rose : goal.returns-clause-rose
returns-clause-rose c = rw c.saturating_add-self.ensures (le_refl _)
