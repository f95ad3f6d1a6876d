use Rattle.root_store.proofs.Cores.{shows_core}
use Rattle.root_opening.proofs.ImagesShown.{shown_opened}
use Rattle.root_opening.proofs.Standing.{core_stands}
use Rattle.root_opening.proofs.laws.roots_stand_by_their_stores.Goals as goal

pub returns : goal.returns
returns g c = record {
  stands = λ names h store o s. core_stands g.D.Dir.files names h store o s;
  core = λ names h store o s. shows_core g.D.Dir.files h store (core_stands g.D.Dir.files names h store o s);
  shown = λ names store o. shown_opened g.D.Dir.files names store o;
}
