use Rattle.root_store.proofs.Cores.{shown_core, shows_core}
use Rattle.root_store.proofs.laws.stores_show_the_core.Goals as goal

pub returns-clause-some : goal.returns-clause-some
returns-clause-some g c = shows_core g.D.Dir.files

pub returns-clause-holds : goal.returns-clause-holds
returns-clause-holds g c = shown_core g.D.Dir.files
