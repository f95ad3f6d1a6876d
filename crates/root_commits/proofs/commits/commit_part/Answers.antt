use Rattle.std.proofs.Common.{◌≡◌, ◌+◌, ℕ, List, Option, Some, refl, sym, ap, ap₂, ◌∙◌, subst, arith, false}
use Rattle.std.specs.BTreeMap.{Updates}
use Rattle.std.specs.Cmp.Lexicographic.{slice_cmp}
use Rattle.std.specs.Ordering.{nat_cmp}
use Rattle.mt_base.specs.declared.partition.Partition.{Partition}
use Rattle.mt_values.specs.declared.command.Entry.{Entry}
use Rattle.mt_values.specs.RootNames.{part_name}
use Rattle.mt_outside.specs.Disk.{files_at, names_of}
use Rattle.root_store.specs.durable_commit.declared.causes.Refused.{Refused}
use Rattle.root_store.specs.durable_commit.Commits.{entry_of}
use Rattle.root_store.specs.durable_commit.Publications.{publication, storage}
use Rattle.root_store.specs.part_name.declared.part.PartName.{PartName}
use Rattle.root_store.specs.part_name.PartNames.{part_text}
use Rattle.root_store.specs.part_reader.declared.reading.Part.{Part}
use Rattle.root_store.specs.part_set.declared.kept.Kept.{Kept}
use Rattle.root_store.specs.part_set.Parts.{IsAdded, NoneMeets}
use Rattle.root_store.specs.part_set.Sets.{parts_of}
use Rattle.root_store.specs.declared.store.CoreStore.{CoreStore}
use Rattle.root_store.specs.declared.store.Table.{Table}
use Rattle.root_store.proofs.DurableCommitSameLists.{no_disk}
use Rattle.root_commits.specs.Commits.{EntersSealed, fresh_part, insert_of_block, partition_of_block, refuses_part}
use Rattle.root_commits.specs.Publications.{Adding, adding, partition_of_adding, publication_of_part}
use Rattle.root_commits.specs.Turns.{MayAdd, Root, root_of}
use Rattle.root_commits.proofs.Ending.{committed, no_memory, not_settled, published_as, shown_why, unsettled_as}
use Rattle.root_commits.proofs.FreeNames.{fresh_named, part_free}
use Rattle.root_commits.proofs.Leaving.{shown_number, shown_part_calm, shown_part_other}
use Rattle.root_commits.proofs.PartCommits.{adds, adds_to}
use Rattle.root_commits.proofs.Partitions.{block_spells}
use Rattle.root_commits.proofs.Placed.{none_meets}
use Rattle.root_commits.proofs.SameStores.{same_itself}
use Rattle.root_commits.proofs.commits.commit_part.Goals as goal

-- what is shown of a partition that is this one, at a count that is this one
shown_at : {F : Type 0} (store : CoreStore F) (table : List ℕ) (p q : Partition) (drawn now count : ℕ) (found : Option Refused) → p ≡ q → now ≡ count → found ≡ refuses_part store table p drawn now → refuses_part store table q drawn count ≡ found
shown_at store table p q drawn now count found same at is = sym (is ∙ ap₂ (λ (x : Partition) (n : ℕ). refuses_part store table x drawn n) same at)

fresh_is : (name : PartName) (p q : Partition) (n : ℕ) → p ≡ q → name ≡ fresh_part p n → name ≡ fresh_part q n
fresh_is name p q n same is = is ∙ ap (λ (x : Partition). fresh_part x n) same

named_is : (table text : List ℕ) (name : PartName) (p q : Partition) (n : ℕ) → p ≡ q → name ≡ fresh_part p n → text ≡ part_name table (part_text name) → text ≡ part_name table (part_text (fresh_part q n))
named_is table text name p q n same is spelled = spelled ∙ ap (λ (x : PartName). part_name table (part_text x)) (fresh_is name p q n same is)

-- a publication with the name of the new part, and with the command of its block, is the one of the part
given_is : (a : Adding) (name into : List ℕ) (p : Partition) (entry : Entry) → name ≡ part_name a.table (part_text (fresh_part (partition_of_adding a) (a.kept.drawn + 1))) → into ≡ a.table → p ≡ partition_of_adding a
    → entry ≡ entry_of a.session (insert_of_block into p a.block) → publication name a.sealed (Some entry) ≡ publication_of_part a
given_is a name into p entry named there same is =
    ap₂ (λ (n : List ℕ) (e : Entry). publication n a.sealed (Some e)) named (is ∙ ap₂ (λ (u : List ℕ) (x : Partition). entry_of a.session (insert_of_block u x a.block)) there same)

-- the block has a row
pub partition_at-partition-requires : goal.partition_at-partition-requires
partition_at-partition-requires g c = (c.requires.rows c.index-found.result.now c.index-found.ensures).some

pub commit-requires-clause-free : goal.commit-requires-clause-free
commit-requires-clause-free g c κs within = λ root is.
    let t : Table = c.index-found.result.now in
    let partition = partition_of_block t.schema c.args.block in
    let none = shown_at c.args.store.now c.args.table.now _ (partition_of_block t.schema c.args.block) t.drawn c.faults.result (g.D.Disk.failed c.args.disk.now) c.refuse_part.result c.partition_at-partition.ensures c.faults.ensures c.refuse_part.ensures ∙ c.in_default.is in
    let still = shown_part_calm c.args.store.now c.args.table.now _ partition t.drawn none c.requires.ready.opened in
    let small = shown_number c.args.store.now c.args.table.now _ partition t.drawn none in
    ap (λ n. files_at n (names_of root)) (named_is c.args.table.now _ _ _ _ _ c.partition_at-partition.ensures c.name_of_part-fresh.ensures c.in-Ok.ensures.name)
    ∙ part_free c.args.store.now root (c.requires.ready.names still root is) c.args.table.now t (fresh_part partition (t.drawn + 1)) c.index-found.ensures
    (fresh_named partition t.drawn (block_spells c.args.table.now t.schema c.args.block (c.requires.ready.sound.tables c.args.table.now t c.index-found.ensures).schema (c.requires.rows t c.index-found.ensures)) small) (omega arith)

pub enter_part-requires-clause-fresh : goal.enter_part-requires-clause-fresh
enter_part-requires-clause-fresh g c =
    let t : Table = c.index-found.result.now in
    subst (λ (n : PartName). NoneMeets (parts_of c.prepare_part.new.set c.args.table.now) n) (sym (fresh_is _ _ _ _ c.partition_at-partition.ensures c.name_of_part-fresh.ensures)) (subst (λ (ks : List (Kept (Part g.row.D-Arm-Dir.Denot))). NoneMeets ks (fresh_part (partition_of_block t.schema c.args.block) (t.drawn + 1))) (sym (c.in-Ok.ensures.parts c.args.table.now))
    (none_meets (parts_of c.args.store.now.set c.args.table.now) (partition_of_block t.schema c.args.block) t.drawn (c.requires.ready.sound.tables c.args.table.now t c.index-found.ensures).ends))

-- ---- the ways in which it ends

-- the store shows why
pub returns-in-Some-clause-commits : goal.returns-in-Some-clause-commits
returns-in-Some-clause-commits g c = λ u at.
    let t : Table = c.index-found.result.now in
    let was : Root g.row.D-Arm-Dir.Denot = root_of c.args.store.now (g.D.Disk.told c.args.disk.now) (g.D.Disk.clock c.args.disk.now) (g.D.Disk.failed c.args.disk.now) (g.A.Annals.told c.args.annals.now) in
    let a : Adding = adding c.args.session c.args.table.now t c.args.block c.args.part.sealed c.args.part.loaded in
    let from : MayAdd a was = record { ready = c.requires.ready; there = c.index-found.ensures; rows = c.requires.rows t c.index-found.ensures } in
    let shown = shown_at c.args.store.now c.args.table.now _ (partition_of_block t.schema c.args.block) t.drawn c.faults.result (g.D.Disk.failed c.args.disk.now) c.refuse_part.result c.partition_at-partition.ensures c.faults.ensures c.refuse_part.ensures ∙ c.in-Some.is in
    adds_to g.D.Arm.Dir.Dir.files c.args.session c.args.table.now c.args.block c.args.part.sealed c.args.part.loaded was was c.args.part _ t u c.index-found.ensures at
    (shown_why (MayAdd a was) _ (publication_of_part a) _ was was c.args.part (adds g.D.Arm.Dir.Dir.files a was was from c.args.part) c.in-Some.cause shown
    (shown_part_other c.args.store.now c.args.table.now (g.D.Disk.failed c.args.disk.now) (partition_of_block t.schema c.args.block) t.drawn c.in-Some.cause shown) refl (same_itself c.args.store.now))

-- there was no memory
pub returns-in_default-prepare_part-clause-commits : goal.returns-in_default-prepare_part-clause-commits
returns-in_default-prepare_part-clause-commits g c = λ u at.
    let t : Table = c.index-found.result.now in
    let was : Root g.row.D-Arm-Dir.Denot = root_of c.args.store.now (g.D.Disk.told c.args.disk.now) (g.D.Disk.clock c.args.disk.now) (g.D.Disk.failed c.args.disk.now) (g.A.Annals.told c.args.annals.now) in
    let a : Adding = adding c.args.session c.args.table.now t c.args.block c.args.part.sealed c.args.part.loaded in
    let from : MayAdd a was = record { ready = c.requires.ready; there = c.index-found.ensures; rows = c.requires.rows t c.index-found.ensures } in
    let none = shown_at c.args.store.now c.args.table.now _ (partition_of_block t.schema c.args.block) t.drawn c.faults.result (g.D.Disk.failed c.args.disk.now) c.refuse_part.result c.partition_at-partition.ensures c.faults.ensures c.refuse_part.ensures ∙ c.in_default.is in
    let now : Root g.row.D-Arm-Dir.Denot = root_of (record { tables = c.args.store.now.tables; set = c.prepare_part.new.set; mutations = c.args.store.now.mutations; length = c.args.store.now.length; opened = c.args.store.now.opened }) (g.D.Disk.told c.args.disk.now) (g.D.Disk.clock c.args.disk.now) (g.D.Disk.failed c.args.disk.now) (g.A.Annals.told c.prepare_part.new.annals) in
    adds_to g.D.Arm.Dir.Dir.files c.args.session c.args.table.now c.args.block c.args.part.sealed c.args.part.loaded was now c.args.part _ t u c.index-found.ensures at
    (no_memory (MayAdd a was) _ (publication_of_part a) _ was now c.args.part (adds g.D.Arm.Dir.Dir.files a was now from c.args.part) none no_disk
    (ap (storage (g.D.Disk.told c.args.disk.now) (g.D.Disk.clock c.args.disk.now) (g.D.Disk.failed c.args.disk.now)) c.in_default-prepare_part.ensures.told) (record { tables = refl; parts = c.in_default-prepare_part.ensures.parts; mutations_are = refl; length_is = refl; opened_is = refl }))

-- it was given to the disk, and not settled
pub returns-in-Err-clause-commits : goal.returns-in-Err-clause-commits
returns-in-Err-clause-commits g c = λ u at.
    let t : Table = c.index-found.result.now in
    let was : Root g.row.D-Arm-Dir.Denot = root_of c.args.store.now (g.D.Disk.told c.args.disk.now) (g.D.Disk.clock c.args.disk.now) (g.D.Disk.failed c.args.disk.now) (g.A.Annals.told c.args.annals.now) in
    let a : Adding = adding c.args.session c.args.table.now t c.args.block c.args.part.sealed c.args.part.loaded in
    let from : MayAdd a was = record { ready = c.requires.ready; there = c.index-found.ensures; rows = c.requires.rows t c.index-found.ensures } in
    let none = shown_at c.args.store.now c.args.table.now _ (partition_of_block t.schema c.args.block) t.drawn c.faults.result (g.D.Disk.failed c.args.disk.now) c.refuse_part.result c.partition_at-partition.ensures c.faults.ensures c.refuse_part.ensures ∙ c.in_default.is in
    let now : Root g.row.D-Arm-Dir.Denot = root_of (record { tables = c.args.store.now.tables; set = c.prepare_part.new.set; mutations = c.args.store.now.mutations; length = c.args.store.now.length; opened = c.args.store.now.opened }) (g.D.Disk.told c.commit.new.disk) (g.D.Disk.clock c.commit.new.disk) (g.D.Disk.failed c.commit.new.disk) (g.A.Annals.told c.commit.new.annals) in
    adds_to g.D.Arm.Dir.Dir.files c.args.session c.args.table.now c.args.block c.args.part.sealed c.args.part.loaded was now c.args.part _ t u c.index-found.ensures at
    (not_settled (MayAdd a was) _ (publication_of_part a) _ was now c.args.part (adds g.D.Arm.Dir.Dir.files a was now from c.args.part) none c.of_disk-cause.result
    (unsettled_as _ (publication_of_part a) (given_is a _ _ _ _
    (named_is c.args.table.now _ _ _ _ _ c.partition_at-partition.ensures c.name_of_part-fresh.ensures c.in-Ok.ensures.name) c.in-Ok.ensures.table c.partition_at-partition.ensures c.entry_of_part-entry.ensures)
    (storage (g.D.Disk.told c.args.disk.now) (g.D.Disk.clock c.args.disk.now) (g.D.Disk.failed c.args.disk.now) (g.A.Annals.told c.prepare_part.new.annals)) was.storage now.storage
    (ap (storage (g.D.Disk.told c.args.disk.now) (g.D.Disk.clock c.args.disk.now) (g.D.Disk.failed c.args.disk.now)) c.in-Ok.ensures.told) _ c.of_disk-cause.result c.of_disk-cause.ensures c.in-Err.ensures.turn)
    (record { tables = refl; parts = c.in-Ok.ensures.parts; mutations_are = refl; length_is = refl; opened_is = refl }))

-- the store has the part
entered : (g : _) (c : goal.After-drop-ready-2 g) → let t : Table = c.index-found.result.now in EntersSealed g.D.Arm.Dir.Dir.files c.args.part.sealed.files c.args.part.loaded c.args.table.now (partition_of_block t.schema c.args.block) t c.args.store.now c.enter_part.new.store
entered g c =
    let t : Table = c.index-found.result.now in
    record {
      part = c.of-part.result;
      files_are = ap g.D.Arm.Dir.Dir.files c.of-part.ensures.dir ∙ c.in-Ok-commit.ensures.dir;
      loaded_is = c.of-part.ensures.loaded;
      enters = record {
        there = c.index-found.ensures;
        updates = subst (λ (n : PartName). Updates (slice_cmp nat_cmp) c.args.store.now.tables c.enter_part.new.store.tables c.args.table.now (Some (record { schema = t.schema; drawn = n.max_block }))) (fresh_is _ _ _ _ c.partition_at-partition.ensures c.name_of_part-fresh.ensures)
            (c.enter_part.ensures.updates t c.index-found.ensures);
        count = c.enter_part.ensures.count;
        added = subst (λ (ks : List (Kept (Part g.row.D-Arm-Dir.Denot))). IsAdded ks (record { name = fresh_part (partition_of_block t.schema c.args.block) (t.drawn + 1); part = c.of-part.result; busy = false }) (parts_of c.enter_part.new.store.set c.args.table.now))
            (c.in-Ok.ensures.parts c.args.table.now)
            (subst (λ (n : PartName). IsAdded (parts_of c.prepare_part.new.set c.args.table.now) (record { name = n; part = c.of-part.result; busy = false }) (parts_of c.enter_part.new.store.set c.args.table.now)) (fresh_is _ _ _ _ c.partition_at-partition.ensures c.name_of_part-fresh.ensures) c.enter_part.ensures.added);
        ordered = c.enter_part.ensures.ordered;
        others = λ u apart. c.enter_part.ensures.others u apart ∙ c.in-Ok.ensures.parts u;
        mutations_are = c.enter_part.ensures.mutations;
        length_is = c.enter_part.ensures.length ∙ c.in-Ok.ensures.length;
        opened_is = c.enter_part.ensures.opened;
      };
    }

-- it was committed
pub returns-clause-commits : goal.returns-clause-commits
returns-clause-commits g c = λ u at.
    let t : Table = c.index-found.result.now in
    let was : Root g.row.D-Arm-Dir.Denot = root_of c.args.store.now (g.D.Disk.told c.args.disk.now) (g.D.Disk.clock c.args.disk.now) (g.D.Disk.failed c.args.disk.now) (g.A.Annals.told c.args.annals.now) in
    let a : Adding = adding c.args.session c.args.table.now t c.args.block c.args.part.sealed c.args.part.loaded in
    let from : MayAdd a was = record { ready = c.requires.ready; there = c.index-found.ensures; rows = c.requires.rows t c.index-found.ensures } in
    let none = shown_at c.args.store.now c.args.table.now _ (partition_of_block t.schema c.args.block) t.drawn c.faults.result (g.D.Disk.failed c.args.disk.now) c.refuse_part.result c.partition_at-partition.ensures c.faults.ensures c.refuse_part.ensures ∙ c.in_default.is in
    let now : Root g.row.D-Arm-Dir.Denot = root_of c.enter_part.new.store (g.D.Disk.told c.commit.new.disk) (g.D.Disk.clock c.commit.new.disk) (g.D.Disk.failed c.commit.new.disk) (g.A.Annals.told c.commit.new.annals) in
    adds_to g.D.Arm.Dir.Dir.files c.args.session c.args.table.now c.args.block c.args.part.sealed c.args.part.loaded was now c.args.part _ t u c.index-found.ensures at
    (committed (MayAdd a was) _ (publication_of_part a) _ was now c.args.part (adds g.D.Arm.Dir.Dir.files a was now from c.args.part) none _
    (published_as _ (publication_of_part a) (given_is a _ _ _ _
    (named_is c.args.table.now _ _ _ _ _ c.partition_at-partition.ensures c.name_of_part-fresh.ensures c.in-Ok.ensures.name) c.in-Ok.ensures.table c.partition_at-partition.ensures c.entry_of_part-entry.ensures)
    (storage (g.D.Disk.told c.args.disk.now) (g.D.Disk.clock c.args.disk.now) (g.D.Disk.failed c.args.disk.now) (g.A.Annals.told c.prepare_part.new.annals)) was.storage now.storage
    (ap (storage (g.D.Disk.told c.args.disk.now) (g.D.Disk.clock c.args.disk.now) (g.D.Disk.failed c.args.disk.now)) c.in-Ok.ensures.told) c.in-Ok-commit.ensures.turn)
    (entered g c))
