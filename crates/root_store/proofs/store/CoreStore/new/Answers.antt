use Rattle.root_store.proofs.Showing.{none_busy}
use Rattle.root_store.proofs.store.CoreStore.new.Goals as goal

pub returns-clause-idle : goal.returns-clause-idle
returns-clause-idle g c = none_busy c.new-2.result c.new-2.ensures
