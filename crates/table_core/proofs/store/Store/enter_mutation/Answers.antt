use Rattle.std.proofs.Common.{◌∷◌, ◌++◌, [], ap, ◌∙◌}
use Rattle.mt_values.specs.declared.change.Change.{Change}
use Rattle.indexmap.specs.IndexMap.{set_value_at}
use Rattle.mutation_queue.specs.Queue.{mutations_of}
use Rattle.table_core.specs.declared.store.Table.{Table}
use Rattle.table_core.specs.Store.{drawn_table}
use Rattle.table_core.proofs.Stored.{one_value, value_at}
use Rattle.table_core.proofs.store.Store.enter_mutation.Goals as goal

-- the table at the place draws the number
pub returns-clause-tables : goal.returns-clause-tables
returns-clause-tables c = λ t at.
    let tables = c.args.self.now.tables.entries in
    let is = one_value _ _ _ c.index_mut.ensures.value (value_at tables c.args.place t at) in
    ap (λ (v : Table). set_value_at tables c.args.place (drawn_table v c.args.number)) is

pub returns-clause-mutations : goal.returns-clause-mutations
returns-clause-mutations c = record {
  mine = c.in_ok-accept.ensures.ok
      ∙ ap (λ (change : Change). mutations_of c.args.self.now.mutations c.args.alter.table ++ record { number = c.args.number; change = change } ∷ []) c.in_ok-change.ensures;
  others = c.in_ok-accept.ensures.others;
}
