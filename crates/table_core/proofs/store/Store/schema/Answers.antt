use Rattle.std.proofs.Common.{Some, option_copied, sym, ap, ◌∙◌}
use Rattle.table_core.specs.declared.store.Table.{Table}
use Rattle.table_core.proofs.Keeping.{no_table, read_here, schema_here}
use Rattle.table_core.proofs.store.Store.schema.Goals as goal

pub returns : goal.returns
returns c =
    let store = c.args.self.now in
    let table = c.args.table.now in
    let place = c.in_ok-place.place in
    let here = c.in_ok-place.ensures.there in
    ap (λ (t : Table). Some t.schema) (read_here store c.requires table place here c.index.result.now c.index.ensures) ∙ sym (schema_here store c.requires table place here)

pub returns-in_err-place : goal.returns-in_err-place
returns-in_err-place c = ap option_copied c.from_residual.ensures ∙ sym (no_table c.args.self.now c.requires c.args.table.now c.in_err-place.ensures.none)
