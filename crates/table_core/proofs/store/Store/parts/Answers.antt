use Rattle.std.proofs.Common.{sym, ap, ◌∙◌}
use Rattle.std.proofs.lemmas.List.Elements.{recursion_from_All}
use Rattle.table_core.specs.declared.store.Table.{Table}
use Rattle.table_core.specs.Store.{IsNotNamed, TableKept}
use Rattle.table_core.proofs.Keeping.{parts_apart, parts_here, read_here}
use Rattle.table_core.proofs.store.Store.parts.Goals as goal

pub returns : goal.returns
returns c =
    let store = c.args.self.now in
    let table = c.args.table.now in
    let place = c.in-Some.place in
    let here = c.in-Some.ensures.there in
    c.as_slice.ensures ∙ ap (λ (t : Table). t.parts) (read_here store c.requires table place here c.index.result.now c.index.ensures) ∙ sym (parts_here store c.requires table place here)

pub returns-in_default : goal.returns-in_default
returns-in_default c =
    let store = c.args.self.now in
    let tables = store.tables.entries in
    let none = c.in_default.ensures.none in
    sym (parts_apart c.args.table.now store.entries.items tables (recursion_from_All (IsNotNamed c.args.table.now) tables none) (recursion_from_All (TableKept store.entries.items) tables c.requires.each))
