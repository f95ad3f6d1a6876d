use Rattle.std.proofs.Common.{◌≡◌, length, refl, ap, ◌∙◌, arith}
use Rattle.table_core.specs.declared.snapshot.Snapshot.{Snapshot}
use Rattle.table_core.specs.declared.store.Store.{Store}
use Rattle.table_core.proofs.Keeping.{no_table, read_here, take_is, take_store, take_there}
use Rattle.table_core.proofs.steps.take_snapshot.Goals as goal

pub returns-in_default-clause-gives : goal.returns-in_default-clause-gives
returns-in_default-clause-gives c = (no_table c.args.store.now c.requires c.args.table c.in_default.ensures.none, refl)

pub returns-clause-gives : goal.returns-clause-gives
returns-clause-gives c =
    let old = c.args.store.now in
    let new : Store = record { tables = old.tables; mutations = old.mutations; entries = old.entries; snapshots = c.push.new.self } in
    let one : Snapshot = record { table = c.args.table; parts = c.in_ok-parts.parts; mutations = c.in_ok-mutations.mutations; length = c.len-length.result } in
    let here = c.in-Some.ensures.there in
    let parts = c.in_ok-parts.ensures ∙ ap (λ t. t.parts) (read_here old c.requires c.args.table c.in-Some.place here c.index.result.now c.index.ensures) in
    let mutations = c.in_ok-mutations.ensures in
    let entries = old.entries.ok.0 in
    let len : c.len-length.result ≡ length old.entries.items = omega (arith, c.len-length.ensures, entries) in
    let snapshots = old.snapshots.ok.0 in
    let number : c.len-number.result ≡ length old.snapshots.items = omega (arith, c.len-number.ensures, snapshots) in (
      take_there old new c.args.table c.in-Some.place one c.requires here refl refl c.in_ok-push.ensures.items refl parts mutations len (λ u. refl),
      number,
      take_is old new c.args.table c.in-Some.place one c.requires here refl refl c.in_ok-push.ensures.items refl parts mutations len (λ u. refl),
    )

pub returns-clause-store : goal.returns-clause-store
returns-clause-store c =
    let old = c.args.store.now in
    let new : Store = record { tables = old.tables; mutations = old.mutations; entries = old.entries; snapshots = c.push.new.self } in
    let one : Snapshot = record { table = c.args.table; parts = c.in_ok-parts.parts; mutations = c.in_ok-mutations.mutations; length = c.len-length.result } in
    let here = c.in-Some.ensures.there in
    let parts = c.in_ok-parts.ensures ∙ ap (λ t. t.parts) (read_here old c.requires c.args.table c.in-Some.place here c.index.result.now c.index.ensures) in
    let entries = old.entries.ok.0 in
    let len : c.len-length.result ≡ length old.entries.items = omega (arith, c.len-length.ensures, entries) in
    take_store old new c.args.table c.in-Some.place one c.requires here refl refl c.in_ok-push.ensures.items refl parts c.in_ok-mutations.ensures len (λ u. refl)
