use Rattle.std.proofs.Common.{◌≡◌, ◌+◌, ◌<◌, ◌≤◌, is_some, length, refl, sym, ap, ◌∙◌, arith}
use Rattle.part_history.specs.mt_model.History.{creates}
use Rattle.table_core.specs.Store.{IsNotNamed, StandsAt}
use Rattle.std.proofs.Common.{All}
use Rattle.table_core.proofs.Keeping.{create_is, create_store, found_none, found_some, no_table, same_store, schema_here, tables_made}
use Rattle.table_core.proofs.steps.make_table.Goals as goal

pub returns-then-is_some-clause-gives : goal.returns-then-is_some-clause-gives
returns-then-is_some-clause-gives c =
    let store = c.args.store.now in
    let table = c.args.create.table in
    let found = found_some c.find.result (StandsAt store.tables.entries table) (sym c.is_some.ensures ∙ c.if-is_some.true) c.find.ensures.there in
    (ap is_some (schema_here store c.requires.store table found.0 found.1), refl)

pub returns-then-len-ge-ROOT_TABLE_LIMIT-clause-gives : goal.returns-then-len-ge-ROOT_TABLE_LIMIT-clause-gives
returns-then-len-ge-ROOT_TABLE_LIMIT-clause-gives c =
    let store = c.args.store.now in
    let table = c.args.create.table in
    let none = found_none c.find.result (All (IsNotNamed table) store.tables.entries) (sym c.is_some.ensures ∙ c.if-is_some.false) c.find.ensures.none in
    let made = tables_made store c.requires.store in
    let many : 65536 ≤ creates store.entries.items = omega (arith, made, c.len.ensures.len, c.if-len-ge-ROOT_TABLE_LIMIT.true) in
    (no_table store c.requires.store table none, many, refl)

pub returns-clause-gives : goal.returns-clause-gives
returns-clause-gives c =
    let store = c.args.store.now in
    let create = c.args.create in
    let none = found_none c.find.result (All (IsNotNamed create.table) store.tables.entries) (sym c.is_some.ensures ∙ c.if-is_some.false) c.find.ensures.none in
    let made = tables_made store c.requires.store in
    let few : creates store.entries.items < 65536 = omega (arith, made, c.len.ensures.len, c.if-len-ge-ROOT_TABLE_LIMIT.false) in
    let entries = store.entries.ok.0 in
    let place : c.len-length.result + 1 ≡ length store.entries.items + 1 = omega (arith, c.len-length.ensures, entries) in
    let done = c.in_ok-enter_table.ensures in (
      no_table store c.requires.store create.table none,
      few,
      place,
      create_is store c.enter_table.new.self c.args.session create c.requires.store done.tables done.entries done.snapshots done.mutations,
    )

pub returns-clause-store : goal.returns-clause-store
returns-clause-store c =
    let store = c.args.store.now in
    let create = c.args.create in
    let none = found_none c.find.result (All (IsNotNamed create.table) store.tables.entries) (sym c.is_some.ensures ∙ c.if-is_some.false) c.find.ensures.none in
    let made = tables_made store c.requires.store in
    let few : creates store.entries.items < 65536 = omega (arith, made, c.len.ensures.len, c.if-len-ge-ROOT_TABLE_LIMIT.false) in
    let done = c.in_ok-enter_table.ensures in
    create_store store c.enter_table.new.self c.args.session create c.requires.store done.tables done.entries done.snapshots done.mutations c.requires.schema (no_table store c.requires.store create.table none) few

-- all is as it was
pub returns-in_err-enter_table-clause-store : goal.returns-in_err-enter_table-clause-store
returns-in_err-enter_table-clause-store c = same_store c.args.store.now c.enter_table.new.self c.requires.store c.in_err-enter_table.ensures.err
