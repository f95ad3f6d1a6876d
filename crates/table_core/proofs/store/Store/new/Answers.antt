use Rattle.table_core.specs.declared.store.Store.{Store}
use Rattle.table_core.proofs.Keeping.{empty_store}
use Rattle.table_core.proofs.store.Store.new.Goals as goal

pub returns-clause-store : goal.returns-clause-store
returns-clause-store c =
    let store : Store = record { tables = c.new.result; mutations = c.new-2.result; entries = c.new-3.result; snapshots = c.new-4.result } in
    empty_store store c.new.ensures.empty c.new-2.ensures c.new-3.ensures.items c.new-4.ensures.items
