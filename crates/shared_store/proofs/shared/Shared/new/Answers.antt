use Rattle.std.proofs.Common.{◌≡◌, [], None, refl, sym, ap, subst}
use Rattle.root_commits.specs.Turns.{storage}
use Rattle.history_seat.specs.declared.view.View.{View}
use Rattle.history_seat.specs.Turns.{IsLock}
use Rattle.shared_store.specs.Engines.{opened_of}
use Rattle.shared_store.specs.Sharing.{IsShared, Shown, shown}
use Rattle.shared_store.proofs.shared.Shared.new.Goals as goal

-- what lies under the lock as it is made
pub invariant_of-locked : goal.invariant_of-locked
invariant_of-locked g c =
    let a = c.args in
    let now = c.new.result in
    let lock = c.open-history.result.lock in
    let lists : [] ≡ lock.list = sym (ap (λ (v : View). v.list) c.open-history.ensures.lock) in
    let begins : None ≡ lock.begun = sym (ap (λ (v : View). v.begun) c.open-history.ensures.lock) in
    let totals = c.open_ledgers-works.ensures.totals in
    let stops = sym totals.1 in
    let levels = sym totals.2 in
    let faults = sym totals.3 in
    let outside = storage (g.D.Disk.told a.disk) (g.D.Disk.clock a.disk) (g.D.Disk.failed a.disk) (g.A.Annals.told a.annals) in
    let whole : opened_of a.store a.policy outside (g.D.Disk.started a.disk) ≡ now =
    λ i. record { store = sym c.new.ensures.store i; policy = sym c.new.ensures.policy i; storage = sym c.new.ensures.storage i; started = sym c.new.ensures.started i } in (
      sym totals.0,
      subst IsLock (sym c.open-history.ensures.lock) (refl, refl),
      subst (λ (s : Shown g.row.F.Denot). IsShared g.F.Dir.files g.B.Names.given g.B.Room.before g.B.Names.opening s) (λ i. shown (whole i) (lists i) (begins i) 0 (stops i) (levels i) (faults i)) c.requires.root.shared,
    )
