use Rattle.mt_outside.proofs.Changes.{since-with_change, since-with_change_back, since-sync, since-sync_back}
use Rattle.mt_outside.proofs.laws.changes_add_their_own_moments.Goals as goal

pub returns-clause-change : goal.returns-clause-change
returns-clause-change c = λ told clock since change names by. ((λ left. since-with_change told clock since change names left), (λ left. since-with_change_back told clock since change names by left))

pub returns-clause-sync : goal.returns-clause-sync
returns-clause-sync c = λ told clock since names by. ((λ left. since-sync told clock since names left), (λ left. since-sync_back told clock since names by left))
