use Rattle.std.proofs.Common.{sym, subst}
use Rattle.root_commits.specs.root_store.Soundness.{IsReady}
use Rattle.shared_store.proofs.engine.Engine.give_back.Goals as goal

pub invariant_of-self : goal.invariant_of-self
invariant_of-self g c =
    let was = c.self.inside in
    subst (λ set. IsReady (g.D.Disk.failed was.disk) (g.D.Disk.told was.disk) (record { tables = was.store.tables; set = set; mutations = was.store.mutations; length = was.store.length; opened = was.store.opened })) (sym c.unpin.ensures) c.self.invariant
