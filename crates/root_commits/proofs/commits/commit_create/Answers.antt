use Rattle.std.proofs.Common.{◌≡◌, ℕ, List, Option, Some, refl, sym, ap, ◌∙◌}
use Rattle.mt_values.specs.declared.command.Command.TheVariants as command
use Rattle.mt_outside.specs.Disk.{files_at, names_of}
use Rattle.root_store.specs.durable_commit.declared.causes.Refused.{Refused}
use Rattle.root_store.specs.durable_commit.Commits.{entry_of}
use Rattle.root_store.specs.durable_commit.Publications.{publication, storage}
use Rattle.root_store.specs.declared.store.CoreStore.{CoreStore}
use Rattle.root_store.specs.Stores.{fresh_table}
use Rattle.root_store.proofs.DurableCommitSameLists.{no_disk}
use Rattle.root_commits.specs.Commits.{refuses_create}
use Rattle.root_commits.specs.Publications.{publication_of_create}
use Rattle.root_commits.specs.Turns.{MayCreate, Root, root_of}
use Rattle.root_commits.proofs.CreateCommits.{creates}
use Rattle.root_commits.proofs.Ending.{committed, no_memory, not_settled, published_as, shown_why, unsettled_as}
use Rattle.root_commits.proofs.FreeNames.{entry_free}
use Rattle.root_commits.proofs.Leaving.{same_tables, shown_absent, shown_calm, shown_other, taken_out}
use Rattle.root_commits.proofs.SameStores.{same_itself}
use Rattle.root_commits.proofs.commits.commit_create.Goals as goal

-- what is shown at a count that is this one
shown_at : {F : Type 0} (store : CoreStore F) (table : List ℕ) (now count : ℕ) (found : Option Refused) → now ≡ count → found ≡ refuses_create store table now → refuses_create store table count ≡ found
shown_at store table now count found at is = sym (is ∙ ap (λ (n : ℕ). refuses_create store table n) at)

pub commit-requires-clause-free : goal.commit-requires-clause-free
commit-requires-clause-free g c κs within = λ root is.
    let none = shown_at c.args.store.now c.args.create.table c.faults.result (g.D.Disk.failed c.args.disk.now) c.refuse_create.result c.faults.ensures c.refuse_create.ensures ∙ c.in_default.is in
    let still = shown_calm c.args.store.now c.args.create.table _ none c.requires.ready.opened in
    ap (λ n. files_at n (names_of root)) c.in-Ok.ensures.name ∙ entry_free c.args.store.now root (c.requires.ready.names still root is) c.args.create.table (shown_absent c.args.store.now c.args.create.table _ none)

-- the store shows why
pub returns-in-Some-clause-commits : goal.returns-in-Some-clause-commits
returns-in-Some-clause-commits g c =
    let was : Root g.row.D-Arm-Dir.Denot = root_of c.args.store.now (g.D.Disk.told c.args.disk.now) (g.D.Disk.clock c.args.disk.now) (g.D.Disk.failed c.args.disk.now) (g.A.Annals.told c.args.annals.now) in
    let from : MayCreate c.args.create was = record { ready = c.requires.ready; named = c.requires.named; schema = c.requires.schema } in
    let shown = shown_at c.args.store.now c.args.create.table c.faults.result (g.D.Disk.failed c.args.disk.now) c.refuse_create.result c.faults.ensures c.refuse_create.ensures ∙ c.in-Some.is in
    shown_why (MayCreate c.args.create was) _ (publication_of_create c.args.session c.args.create c.args.sealed) _ was was c.args.sealed (creates c.args.session c.args.create c.args.sealed was was from c.args.sealed) c.in-Some.cause shown
    (shown_other c.args.store.now c.args.create.table (g.D.Disk.failed c.args.disk.now) c.in-Some.cause shown) refl (same_itself c.args.store.now)

-- there was no memory
pub returns-in_default-prepare_create-clause-commits : goal.returns-in_default-prepare_create-clause-commits
returns-in_default-prepare_create-clause-commits g c =
    let was : Root g.row.D-Arm-Dir.Denot = root_of c.args.store.now (g.D.Disk.told c.args.disk.now) (g.D.Disk.clock c.args.disk.now) (g.D.Disk.failed c.args.disk.now) (g.A.Annals.told c.args.annals.now) in
    let from : MayCreate c.args.create was = record { ready = c.requires.ready; named = c.requires.named; schema = c.requires.schema } in
    let none = shown_at c.args.store.now c.args.create.table c.faults.result (g.D.Disk.failed c.args.disk.now) c.refuse_create.result c.faults.ensures c.refuse_create.ensures ∙ c.in_default.is in
    let now : Root g.row.D-Arm-Dir.Denot = root_of (record { tables = c.prepare_create.new.tables; set = c.args.store.now.set; mutations = c.args.store.now.mutations; length = c.args.store.now.length; opened = c.args.store.now.opened }) (g.D.Disk.told c.args.disk.now) (g.D.Disk.clock c.args.disk.now) (g.D.Disk.failed c.args.disk.now) (g.A.Annals.told c.prepare_create.new.annals) in
    no_memory (MayCreate c.args.create was) _ (publication_of_create c.args.session c.args.create c.args.sealed) _ was now c.args.sealed (creates c.args.session c.args.create c.args.sealed was now from c.args.sealed) none no_disk (ap (storage (g.D.Disk.told c.args.disk.now) (g.D.Disk.clock c.args.disk.now) (g.D.Disk.failed c.args.disk.now)) c.in_default-prepare_create.ensures.told)
    (same_tables _ _ c.in_default-prepare_create.ensures.err refl refl refl refl)

-- it was given to the disk, and not settled
pub returns-clause-commits : goal.returns-clause-commits
returns-clause-commits g c =
    let was : Root g.row.D-Arm-Dir.Denot = root_of c.args.store.now (g.D.Disk.told c.args.disk.now) (g.D.Disk.clock c.args.disk.now) (g.D.Disk.failed c.args.disk.now) (g.A.Annals.told c.args.annals.now) in
    let from : MayCreate c.args.create was = record { ready = c.requires.ready; named = c.requires.named; schema = c.requires.schema } in
    let none = shown_at c.args.store.now c.args.create.table c.faults.result (g.D.Disk.failed c.args.disk.now) c.refuse_create.result c.faults.ensures c.refuse_create.ensures ∙ c.in_default.is in
    not_settled (MayCreate c.args.create was) _ (publication_of_create c.args.session c.args.create c.args.sealed) _ was _ c.args.sealed (creates c.args.session c.args.create c.args.sealed was _ from c.args.sealed) none c.take_out-cause.result
    (unsettled_as _ (publication_of_create c.args.session c.args.create c.args.sealed) (ap (λ (name : List ℕ). publication name c.args.sealed (Some (entry_of c.args.session (command.Create c.args.create)))) c.in-Ok.ensures.name) (storage (g.D.Disk.told c.args.disk.now) (g.D.Disk.clock c.args.disk.now) (g.D.Disk.failed c.args.disk.now) (g.A.Annals.told c.prepare_create.new.annals)) was.storage _ (ap (storage (g.D.Disk.told c.args.disk.now) (g.D.Disk.clock c.args.disk.now) (g.D.Disk.failed c.args.disk.now)) c.in-Ok.ensures.told)
    _ c.take_out-cause.result c.take_out-cause.ensures.cause c.in-Err.ensures.turn)
    (same_tables _ _ (taken_out c.args.store.now.tables.entries _ _ c.args.create.table _ (fresh_table c.args.create.schema) (shown_absent c.args.store.now c.args.create.table _ none)
    c.in-Ok.ensures.entries c.in-Ok.ensures.table c.take_out-cause.ensures.entries) refl refl refl refl)

-- it was committed
pub returns-in-Ok-commit-clause-commits : goal.returns-in-Ok-commit-clause-commits
returns-in-Ok-commit-clause-commits g c =
    let was : Root g.row.D-Arm-Dir.Denot = root_of c.args.store.now (g.D.Disk.told c.args.disk.now) (g.D.Disk.clock c.args.disk.now) (g.D.Disk.failed c.args.disk.now) (g.A.Annals.told c.args.annals.now) in
    let from : MayCreate c.args.create was = record { ready = c.requires.ready; named = c.requires.named; schema = c.requires.schema } in
    let none = shown_at c.args.store.now c.args.create.table c.faults.result (g.D.Disk.failed c.args.disk.now) c.refuse_create.result c.faults.ensures c.refuse_create.ensures ∙ c.in_default.is in
    committed (MayCreate c.args.create was) _ (publication_of_create c.args.session c.args.create c.args.sealed) _ was _ c.args.sealed (creates c.args.session c.args.create c.args.sealed was _ from c.args.sealed) none _
    (published_as _ (publication_of_create c.args.session c.args.create c.args.sealed) (ap (λ (name : List ℕ). publication name c.args.sealed (Some (entry_of c.args.session (command.Create c.args.create)))) c.in-Ok.ensures.name) (storage (g.D.Disk.told c.args.disk.now) (g.D.Disk.clock c.args.disk.now) (g.D.Disk.failed c.args.disk.now) (g.A.Annals.told c.prepare_create.new.annals)) was.storage _ (ap (storage (g.D.Disk.told c.args.disk.now) (g.D.Disk.clock c.args.disk.now) (g.D.Disk.failed c.args.disk.now)) c.in-Ok.ensures.told) c.in-Ok-commit.ensures.turn)
    (record {
      absent = shown_absent c.args.store.now c.args.create.table _ none;
      updates = c.in-Ok.ensures.updates;
      count = c.in-Ok.ensures.count;
      set_is = refl;
      mutations_are = refl;
      length_is = c.in-Ok.ensures.length;
      opened_is = refl;
    })
