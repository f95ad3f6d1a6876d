use Rattle.std.proofs.Common.{List, ap, refl, ◌∙◌}
use Rattle.table_core.specs.declared.snapshot.Snapshot.{Snapshot}
use Rattle.indexmap.specs.IndexMap.{set_value_at}
use Rattle.table_core.specs.Store.{grown_table}
use Rattle.table_core.proofs.Stored.{named_at, on_err, one_value, set_same, value_at}
use Rattle.table_core.proofs.store.Store.enter_part.Goals as goal

-- the table at the place was not changed
pub returns-in_err-add_part-clause-err : goal.returns-in_err-add_part-clause-err
returns-in_err-add_part-clause-err c =
    let tables = c.args.self.now.tables.entries in
    on_err c.from_residual-in_err-add_part.result _ (record {
      tables = ap (set_value_at tables c.args.place) c.in_err-add_part.ensures.err ∙ set_same tables c.args.place _ c.index_mut.ensures.value;
      mutations = λ t. refl;
      entries = c.in_ok-reserve.ensures.items;
      snapshots = refl {A = List Snapshot};
    })

pub returns-clause-tables : goal.returns-clause-tables
returns-clause-tables c = λ t at.
    let tables = c.args.self.now.tables.entries in
    let is = one_value _ _ _ c.index_mut.ensures.value (value_at tables c.args.place t at) in
    ap (set_value_at tables c.args.place) (c.in_ok-add_part.ensures.ok ∙ ap (λ v. grown_table v c.args.part c.args.number) is)

pub add_part-requires : goal.add_part-requires
add_part-requires c =
    let at = named_at c.args.self.now.tables.entries c.args.place c.index_mut.result.now c.index_mut.ensures.value in
    c.requires.order (at.0, c.index_mut.result.now) at.1
