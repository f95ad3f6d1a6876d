use Rattle.std.proofs.Common.{ap, ◌∙◌}
use Rattle.indexmap.specs.IndexMap.{set_value_at}
use Rattle.table_core.specs.Store.{swapped_table}
use Rattle.table_core.proofs.Stored.{named_at, one_value, value_at}
use Rattle.table_core.proofs.store.Store.swap_run.Goals as goal

pub swap_parts-requires-clause-some : goal.swap_parts-requires-clause-some
swap_parts-requires-clause-some c =
    let at = named_at c.args.self.now.tables.entries c.args.place c.index_mut.result.now c.index_mut.ensures.value in
    (c.requires.run (at.0, c.index_mut.result.now) at.1).some

pub swap_parts-requires-clause-within : goal.swap_parts-requires-clause-within
swap_parts-requires-clause-within c =
    let at = named_at c.args.self.now.tables.entries c.args.place c.index_mut.result.now c.index_mut.ensures.value in
    (c.requires.run (at.0, c.index_mut.result.now) at.1).within

pub returns-clause-tables : goal.returns-clause-tables
returns-clause-tables c = λ t at.
    let tables = c.args.self.now.tables.entries in
    let is = one_value _ _ _ c.index_mut.ensures.value (value_at tables c.args.place t at) in
    ap (set_value_at tables c.args.place) (c.swap_parts.ensures ∙ ap (λ v. swapped_table v c.args.run c.args.part) is)
