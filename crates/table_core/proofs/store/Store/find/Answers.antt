use Rattle.table_core.proofs.Stored.{found_at, not_found}
use Rattle.table_core.proofs.store.Store.find.Goals as goal

pub returns-clause-there : goal.returns-clause-there
returns-clause-there c =
    let at = c.get_index_of.ensures in
    rw c.as_slice.ensures at (found_at c.args.self.now.tables.entries c.as_slice.result.now c.get_index_of.result at.unique at.index at.within)

pub returns-clause-none : goal.returns-clause-none
returns-clause-none c =
    rw c.as_slice.ensures at (not_found c.args.self.now.tables.entries c.as_slice.result.now c.get_index_of.result c.get_index_of.ensures.found)
