use Rattle.std.proofs.Common.{◌∙◌}
use Rattle.table_core.proofs.Stored.{table_added}
use Rattle.table_core.proofs.store.add_table.Goals as goal

pub returns-clause-ok : goal.returns-clause-ok
returns-clause-ok c =
    table_added c.args.create.now c.args.tables.now.entries c.insert.new.self.entries c.into_vec-key.result c.in_ok-schema.schema c.new-parts.result c.in_ok-insert.ensures.entries
    (c.into_vec-key.ensures ∙ c.in_ok-twin.ensures) c.in_ok-schema.ensures c.new-parts.ensures c.requires
