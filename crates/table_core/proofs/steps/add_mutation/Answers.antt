use Rattle.std.proofs.Common.{◌≡◌, ℕ, ◌+◌, ◌<◌, ◌≤◌, List, All, is_some, length, refl, sym, ap, subst, arith}
use Rattle.mt_values.specs.declared.mutation.Mutation.{Mutation}
use Rattle.part_history.specs.mt_model.Numbers.{numbered}
use Rattle.mutation_queue.specs.Queue.{mutations_of}
use Rattle.table_core.specs.declared.event.Outcome.TheVariants as outcome
use Rattle.table_core.specs.declared.store.Table.{Table}
use Rattle.table_core.specs.Steps.{AlterGives}
use Rattle.table_core.specs.Store.{core_of}
use Rattle.table_core.proofs.Keeping.{alter_accepted, alter_store, at_least, last_here, no_table, numbers_before, place_here, read_here, same_store, schema_here}
use Rattle.table_core.proofs.steps.add_mutation.Goals as goal

pub returns-in_default-clause-gives : goal.returns-in_default-clause-gives
returns-in_default-clause-gives c = (no_table c.args.store.now c.requires.store c.args.alter.table c.in_default.ensures.none, refl)

pub returns-in_default-checked_add-clause-gives : goal.returns-in_default-checked_add-clause-gives
returns-in_default-checked_add-clause-gives c =
    let store = c.args.store.now in
    let table = c.args.alter.table in
    let here = c.in-Some.ensures.there in
    let read = ap (λ (t : Table). t.last) (read_here store c.requires.store table c.in-Some.place here c.index.result.now c.index.ensures) in
    let last = last_here store c.requires.store table c.in-Some.place here in
    let many = at_least (c.index.result.now.last + 1) 4294967296 c.in_default-checked_add.ensures in
    (ap is_some (schema_here store c.requires.store table c.in-Some.place here), omega (arith, read, last, many), refl)

-- the next number is above those of all mutations of the table
pub enter_mutation-requires-clause-above : goal.enter_mutation-requires-clause-above
enter_mutation-requires-clause-above c =
    let store = c.args.store.now in
    let table = c.args.alter.table in
    let here = c.in-Some.ensures.there in
    let read = ap (λ (t : Table). t.last) (read_here store c.requires.store table c.in-Some.place here c.index.result.now c.index.ensures) in
    let last = last_here store c.requires.store table c.in-Some.place here in
    let some = c.in-Some-checked_add.ensures in
    let drawn : length (numbered table store.entries.items) + 1 ≡ c.in-Some-checked_add.number = omega (arith, read, last, some.1) in
    subst (λ (k : ℕ). All (λ (m : Mutation). m.number < k) (mutations_of store.mutations table)) drawn
    (subst (λ (ms : List Mutation). All (λ (m : Mutation). m.number < length (numbered table store.entries.items) + 1) ms) (sym (c.requires.store.queue table))
    (numbers_before table store.entries.items))

pub returns-clause-gives : goal.returns-clause-gives
returns-clause-gives c =
    let store = c.args.store.now in
    let alter = c.args.alter in
    let number = c.in-Some-checked_add.number in
    let here = c.in-Some.ensures.there in
    let read = ap (λ (t : Table). t.last) (read_here store c.requires.store alter.table c.in-Some.place here c.index.result.now c.index.ensures) in
    let last = last_here store c.requires.store alter.table c.in-Some.place here in
    let some = c.in-Some-checked_add.ensures in
    let drawn : number ≡ length (numbered alter.table store.entries.items) + 1 = omega (arith, read, last, some.1) in
    let fits : number ≤ 4294967295 = omega (arith, some.0, some.1) in
    let done = c.in_ok-enter_mutation.ensures in
    let entries = store.entries.ok.0 in
    let place : length store.entries.items + 1 ≡ c.len-length.result + 1 = omega (arith, c.len-length.ensures, entries) in
    subst (λ (n : ℕ). AlterGives (core_of store) c.args.session alter (outcome.Accepted n) (core_of c.enter_mutation.new.self)) place
    (alter_accepted store c.enter_mutation.new.self c.args.session alter c.in-Some.place number c.requires.store here drawn fits
    (done.tables here.here (place_here store c.requires.store alter.table c.in-Some.place here)) done.entries done.snapshots done.mutations)

pub returns-clause-store : goal.returns-clause-store
returns-clause-store c =
    let store = c.args.store.now in
    let alter = c.args.alter in
    let number = c.in-Some-checked_add.number in
    let here = c.in-Some.ensures.there in
    let read = ap (λ (t : Table). t.last) (read_here store c.requires.store alter.table c.in-Some.place here c.index.result.now c.index.ensures) in
    let last = last_here store c.requires.store alter.table c.in-Some.place here in
    let some = c.in-Some-checked_add.ensures in
    let drawn : number ≡ length (numbered alter.table store.entries.items) + 1 = omega (arith, read, last, some.1) in
    let fits : number ≤ 4294967295 = omega (arith, some.0, some.1) in
    let done = c.in_ok-enter_mutation.ensures in
    alter_store store c.enter_mutation.new.self c.args.session alter c.in-Some.place number c.requires.store here drawn fits
    (done.tables here.here (place_here store c.requires.store alter.table c.in-Some.place here)) done.entries done.snapshots done.mutations c.requires.change

-- all is as it was
pub returns-in_err-enter_mutation-clause-store : goal.returns-in_err-enter_mutation-clause-store
returns-in_err-enter_mutation-clause-store c = same_store c.args.store.now c.enter_mutation.new.self c.requires.store c.in_err-enter_mutation.ensures.err
