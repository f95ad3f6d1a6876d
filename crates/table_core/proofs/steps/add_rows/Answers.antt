use Rattle.std.proofs.Common.{◌≡◌, ◌+◌, ◌<◌, ◌≤◌, All, is_some, length, refl, sym, ap, ◌∙◌, subst, arith}
use Rattle.indexmap.specs.IndexMap.{set_value_at}
use Rattle.mt_values.specs.Tables.{sorting_columns}
use Rattle.table_core.specs.declared.store.Table.{Table}
use Rattle.part_history.specs.mt_model.Numbers.{numbered}
use Rattle.part_history.specs.Entered.{part_of_insert}
use Rattle.part_history.specs.Parts.{AreInBlockOrder}
use Rattle.table_core.specs.Steps.{AcceptsInsert}
use Rattle.table_core.specs.Store.{Named, core_of, grown_table}
use Rattle.table_core.proofs.Keeping.{at_least, insert_accepted, insert_store, key_fits, last_here, no_table, order_here, place_here, read_here, same_store, schema_here}
use Rattle.table_core.proofs.Stored.{one_value}
use Rattle.table_core.proofs.steps.add_rows.Goals as goal

pub returns-in_default-clause-gives : goal.returns-in_default-clause-gives
returns-in_default-clause-gives c = (no_table c.args.store.now c.requires.store c.args.insert.table c.in_default.ensures.none, refl)

pub returns-in_default-checked_add-clause-gives : goal.returns-in_default-checked_add-clause-gives
returns-in_default-checked_add-clause-gives c =
    let store = c.args.store.now in
    let table = c.args.insert.table in
    let here = c.in-Some.ensures.there in
    let read = ap (λ (t : Table). t.last) (read_here store c.requires.store table c.in-Some.place here c.index-table.result.now c.index-table.ensures) in
    let last = last_here store c.requires.store table c.in-Some.place here in
    let many = at_least (c.index-table.result.now.last + 1) 4294967296 c.in_default-checked_add.ensures in
    (ap is_some (schema_here store c.requires.store table c.in-Some.place here), omega (arith, read, last, many), refl)

pub part_of_insert-requires : goal.part_of_insert-requires
part_of_insert-requires c =
    let store = c.args.store.now in
    let insert = c.args.insert in
    let here = c.in-Some.ensures.there in
    let there = schema_here store c.requires.store insert.table c.in-Some.place here in
    subst (λ (t : Table). All (λ place. place < length insert.block.types) (sorting_columns t.schema)) (sym (read_here store c.requires.store insert.table c.in-Some.place here c.index-table.result.now c.index-table.ensures))
    (key_fits store.entries.items insert.table here.here.1.schema insert c.requires.store.core.legal there (c.requires.rows here.here.1.schema there))

pub enter_part-requires-clause-order : goal.enter_part-requires-clause-order
enter_part-requires-clause-order c = λ t at.
    let store = c.args.store.now in
    let table = c.args.insert.table in
    let here = c.in-Some.ensures.there in
    subst (λ (x : Named). AreInBlockOrder x.1.parts) (one_value _ here.here t (place_here store c.requires.store table c.in-Some.place here) at) (order_here store c.requires.store table c.in-Some.place here)

pub returns-clause-gives : goal.returns-clause-gives
returns-clause-gives c =
    let store = c.args.store.now in
    let insert = c.args.insert in
    let number = c.in-Some-checked_add.number in
    let here = c.in-Some.ensures.there in
    let is = read_here store c.requires.store insert.table c.in-Some.place here c.index-table.result.now c.index-table.ensures in
    let read = ap (λ (t : Table). t.last) is in
    let last = last_here store c.requires.store insert.table c.in-Some.place here in
    let some = c.in-Some-checked_add.ensures in
    let drawn : number ≡ length (numbered insert.table store.entries.items) + 1 = omega (arith, read, last, some.1) in
    let fits : number ≤ 4294967295 = omega (arith, some.0, some.1) in
    let part = c.in_ok-part.ensures ∙ ap (λ (t : Table). part_of_insert t.schema number insert) is in
    let tables = c.in_ok-enter_part.ensures.tables here.here (place_here store c.requires.store insert.table c.in-Some.place here)
    ∙ ap (λ p. set_value_at store.tables.entries c.in-Some.place (grown_table here.here.1 p number)) part in
    let entries = store.entries.ok.0 in
    let place : length store.entries.items + 1 ≡ c.len-length.result + 1 = omega (arith, c.len-length.ensures, entries) in
    subst (λ n. AcceptsInsert (core_of store) c.args.session insert n (core_of c.enter_part.new.self)) place
    (insert_accepted store c.enter_part.new.self c.args.session insert c.in-Some.place number c.requires.store here drawn fits tables c.in_ok-enter_part.ensures.entries c.in_ok-enter_part.ensures.snapshots c.in_ok-enter_part.ensures.mutations)

pub returns-clause-store : goal.returns-clause-store
returns-clause-store c =
    let store = c.args.store.now in
    let insert = c.args.insert in
    let number = c.in-Some-checked_add.number in
    let here = c.in-Some.ensures.there in
    let is = read_here store c.requires.store insert.table c.in-Some.place here c.index-table.result.now c.index-table.ensures in
    let read = ap (λ (t : Table). t.last) is in
    let last = last_here store c.requires.store insert.table c.in-Some.place here in
    let some = c.in-Some-checked_add.ensures in
    let drawn : number ≡ length (numbered insert.table store.entries.items) + 1 = omega (arith, read, last, some.1) in
    let fits : number ≤ 4294967295 = omega (arith, some.0, some.1) in
    let part = c.in_ok-part.ensures ∙ ap (λ (t : Table). part_of_insert t.schema number insert) is in
    let tables = c.in_ok-enter_part.ensures.tables here.here (place_here store c.requires.store insert.table c.in-Some.place here)
    ∙ ap (λ p. set_value_at store.tables.entries c.in-Some.place (grown_table here.here.1 p number)) part in
    let into = c.requires.rows here.here.1.schema (schema_here store c.requires.store insert.table c.in-Some.place here) in
    insert_store store c.enter_part.new.self c.args.session insert c.in-Some.place number c.requires.store here drawn fits tables c.in_ok-enter_part.ensures.entries c.in_ok-enter_part.ensures.snapshots c.in_ok-enter_part.ensures.mutations into

-- all is as it was
pub returns-in_err-enter_part-clause-store : goal.returns-in_err-enter_part-clause-store
returns-in_err-enter_part-clause-store c = same_store c.args.store.now c.enter_part.new.self c.requires.store c.in_err-enter_part.ensures.err
