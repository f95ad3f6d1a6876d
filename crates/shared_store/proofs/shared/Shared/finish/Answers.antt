use Rattle.std.proofs.Common.{sym, subst, All}
use Rattle.shared_store.specs.Sharing.{KnowsAll, Shown}
use Rattle.shared_store.proofs.shared.Shared.finish.Goals as goal

pub returns : goal.returns
returns g c =
    let e = c.end.ensures in
    let k = c.know_all.ensures in
    record {
      last = c.know_all.new.locked;
      ready = e.open;
      shared = e.shared;
      storage_is = e.storage;
      started_is = sym e.started;
      seats_known = subst (λ (x : Shown _). All (KnowsAll x.list x.tried) c.args.seats.items) (sym k.same) k.known;
      counted = e.counted;
    }
