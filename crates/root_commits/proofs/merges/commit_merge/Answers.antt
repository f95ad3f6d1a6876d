use Rattle.std.proofs.Common.{rules, ◌≡◌, ◌≤◌, ◌∙◌, ℕ, List, Option, Some, None, refl, sym, ap, subst, arith}
use Rattle.mt_values.specs.Annals as keeper
use Rattle.mt_outside.specs.Disk.{Told, files_at, names_of}
use Rattle.root_store.specs.durable_commit.declared.causes.Refused.{Refused}
use Rattle.root_store.specs.durable_commit.Commits.{stopped_by}
use Rattle.root_store.specs.durable_commit.Publications.{publication}
use Rattle.root_store.specs.part_name.declared.part.PartName.{PartName}
use Rattle.root_store.specs.part_reader.declared.reading.Part.{Part}
use Rattle.root_store.specs.part_set.declared.kept.Kept.{Kept}
use Rattle.root_store.specs.part_set.Parts.{IsInBlockOrder, kept_in}
use Rattle.root_store.specs.part_set.Runs.{IsRun}
use Rattle.root_store.specs.part_set.Sets.{parts_of}
use Rattle.root_store.specs.declared.store.CoreStore.{CoreStore}
use Rattle.root_store.specs.Soundness.{IsReady}
use Rattle.root_store.proofs.DurableCommitSameLists.{no_disk}
use Rattle.root_commits.specs.Merges.{Merging, merging, name_of_merge, sources_of}
use Rattle.root_commits.specs.Publications.{publication_of_merge}
use Rattle.root_commits.specs.Turns.{MaySwap, Root, root_of}
use Rattle.root_commits.proofs.Ending.{committed, no_memory, not_settled, published_as, shown_why, unsettled_as}
use Rattle.root_commits.proofs.MergeCauses.{stopped_none, stopped_other}
use Rattle.root_commits.proofs.MergeCommits.{merges}
use Rattle.root_commits.proofs.MergeTurns.{fit, free}
use Rattle.root_commits.proofs.MergedNames.{run_spans}
use Rattle.root_commits.proofs.SameStores.{same_itself}
use Rattle.root_commits.proofs.merges.commit_merge.Goals as goal

-- what is shown at a count that is this one
shown_at : {F : Type 0} (store : CoreStore F) (now count : ℕ) (found : Option Refused) → now ≡ count → found ≡ stopped_by store.opened now → stopped_by store.opened count ≡ found
shown_at store now count found at is = sym (is ∙ ap (stopped_by store.opened) at)

-- the root that the merge starts from
may : {F : Type 0} (store : CoreStore F) (m : Merging) (name : PartName) (disk : Option Told) (clock failed : ℕ) (annals : Option keeper.Told) (mine : List (Kept (Part F))) → mine ≡ kept_in m.partition (parts_of store.set m.table) → IsInBlockOrder mine
    → IsReady failed disk store → IsRun m.run (kept_in m.partition (parts_of store.set m.table)) → name_of_merge (sources_of store m) ≡ Some name → name.level ≤ 4294967295 → MaySwap m name (root_of store disk clock failed annals)
may {F} store m name disk clock failed annals mine are ordered ready run named low =
    record { ready = ready; run = run; ordered = subst (λ (ks : List (Kept (Part F))). IsInBlockOrder ks) are ordered; named = named; low = low }

-- the name is free
pub publish-requires : goal.publish-requires
publish-requires g c =
    let was : Root g.row.D-Arm-Dir.Denot = root_of c.args.store.now (g.D.Disk.told c.args.disk.now) (g.D.Disk.clock c.args.disk.now) (g.D.Disk.failed c.args.disk.now) None in
    let m : Merging = merging c.args.table.now c.args.partition c.args.run c.args.part.sealed c.args.part.loaded in
    let from : MaySwap m c.args.name was = may c.args.store.now m c.args.name _ _ _ None c.parts_in-parts.result.now c.parts_in-parts.ensures.parts c.parts_in-parts.ensures.ordered c.requires.ready c.requires.run c.requires.named (omega (arith, c.well_formed)) in
    let none = shown_at c.args.store.now c.faults.result (g.D.Disk.failed c.args.disk.now) c.refuse_stopped.result c.faults.ensures c.refuse_stopped.ensures ∙ c.in_default.is in (
      search rules,
      (
        search rules,
        (
          search rules,
          (
            search rules,
            (
              search rules,
              λ root is.
                  ap (λ n. files_at n (names_of root)) c.in-Ok.ensures ∙ free m c.args.name was from (stopped_none c.args.store.now.opened (g.D.Disk.failed c.args.disk.now) none c.requires.ready.opened) root is,
            ),
          ),
        ),
      ),
    )

pub swap-requires-clause-spans : goal.swap-requires-clause-spans
swap-requires-clause-spans g c =
    let was : Root g.row.D-Arm-Dir.Denot = root_of c.args.store.now (g.D.Disk.told c.args.disk.now) (g.D.Disk.clock c.args.disk.now) (g.D.Disk.failed c.args.disk.now) None in
    let m : Merging = merging c.args.table.now c.args.partition c.args.run c.args.part.sealed c.args.part.loaded in
    let from : MaySwap m c.args.name was = may c.args.store.now m c.args.name _ _ _ None c.parts_in-parts.result.now c.parts_in-parts.ensures.parts c.parts_in-parts.ensures.ordered c.requires.ready c.requires.run c.requires.named (omega (arith, c.well_formed)) in
    run_spans _ c.args.partition c.args.run from.ordered (fit m c.args.name was from) c.args.name c.requires.named

pub swap-requires-clause-named : goal.swap-requires-clause-named
swap-requires-clause-named g c =
    let was : Root g.row.D-Arm-Dir.Denot = root_of c.args.store.now (g.D.Disk.told c.args.disk.now) (g.D.Disk.clock c.args.disk.now) (g.D.Disk.failed c.args.disk.now) None in
    let m : Merging = merging c.args.table.now c.args.partition c.args.run c.args.part.sealed c.args.part.loaded in
    let from : MaySwap m c.args.name was = may c.args.store.now m c.args.name _ _ _ None c.parts_in-parts.result.now c.parts_in-parts.ensures.parts c.parts_in-parts.ensures.ordered c.requires.ready c.requires.run c.requires.named (omega (arith, c.well_formed)) in
    fit m c.args.name was from

-- the store shows why
pub returns-in-Some-clause-commits : goal.returns-in-Some-clause-commits
returns-in-Some-clause-commits g c = λ annals.
    let was : Root g.row.D-Arm-Dir.Denot = root_of c.args.store.now (g.D.Disk.told c.args.disk.now) (g.D.Disk.clock c.args.disk.now) (g.D.Disk.failed c.args.disk.now) annals in
    let m : Merging = merging c.args.table.now c.args.partition c.args.run c.args.part.sealed c.args.part.loaded in
    let from : MaySwap m c.args.name was = may c.args.store.now m c.args.name _ _ _ annals c.parts_in-parts.result.now c.parts_in-parts.ensures.parts c.parts_in-parts.ensures.ordered c.requires.ready c.requires.run c.requires.named (omega (arith, c.well_formed)) in
    let shown = shown_at c.args.store.now c.faults.result (g.D.Disk.failed c.args.disk.now) c.refuse_stopped.result c.faults.ensures c.refuse_stopped.ensures ∙ c.in-Some.is in
    shown_why (MaySwap m c.args.name was) _ (publication_of_merge m c.args.name) _ was was c.args.part (merges g.D.Arm.Dir.Dir.files m c.args.name was was from c.args.part) c.in-Some.cause shown (stopped_other c.args.store.now.opened (g.D.Disk.failed c.args.disk.now) c.in-Some.cause shown) refl (same_itself c.args.store.now)

-- there was no memory
pub returns-in-Err-clause-commits : goal.returns-in-Err-clause-commits
returns-in-Err-clause-commits g c = λ annals.
    let was : Root g.row.D-Arm-Dir.Denot = root_of c.args.store.now (g.D.Disk.told c.args.disk.now) (g.D.Disk.clock c.args.disk.now) (g.D.Disk.failed c.args.disk.now) annals in
    let m : Merging = merging c.args.table.now c.args.partition c.args.run c.args.part.sealed c.args.part.loaded in
    let from : MaySwap m c.args.name was = may c.args.store.now m c.args.name _ _ _ annals c.parts_in-parts.result.now c.parts_in-parts.ensures.parts c.parts_in-parts.ensures.ordered c.requires.ready c.requires.run c.requires.named (omega (arith, c.well_formed)) in
    let none = shown_at c.args.store.now c.faults.result (g.D.Disk.failed c.args.disk.now) c.refuse_stopped.result c.faults.ensures c.refuse_stopped.ensures ∙ c.in_default.is in
    no_memory (MaySwap m c.args.name was) _ (publication_of_merge m c.args.name) _ was was c.args.part (merges g.D.Arm.Dir.Dir.files m c.args.name was was from c.args.part) none no_disk refl (same_itself c.args.store.now)

-- it was given to the disk, and not settled
pub returns-in-Err-publish-clause-commits : goal.returns-in-Err-publish-clause-commits
returns-in-Err-publish-clause-commits g c = λ annals.
    let was : Root g.row.D-Arm-Dir.Denot = root_of c.args.store.now (g.D.Disk.told c.args.disk.now) (g.D.Disk.clock c.args.disk.now) (g.D.Disk.failed c.args.disk.now) annals in
    let m : Merging = merging c.args.table.now c.args.partition c.args.run c.args.part.sealed c.args.part.loaded in
    let from : MaySwap m c.args.name was = may c.args.store.now m c.args.name _ _ _ annals c.parts_in-parts.result.now c.parts_in-parts.ensures.parts c.parts_in-parts.ensures.ordered c.requires.ready c.requires.run c.requires.named (omega (arith, c.well_formed)) in
    let none = shown_at c.args.store.now c.faults.result (g.D.Disk.failed c.args.disk.now) c.refuse_stopped.result c.faults.ensures c.refuse_stopped.ensures ∙ c.in_default.is in
    let now : Root g.row.D-Arm-Dir.Denot = root_of c.args.store.now (g.D.Disk.told c.publish.new.disk) (g.D.Disk.clock c.publish.new.disk) (g.D.Disk.failed c.publish.new.disk) annals in
    not_settled (MaySwap m c.args.name was) _ (publication_of_merge m c.args.name) _ was now c.args.part (merges g.D.Arm.Dir.Dir.files m c.args.name was now from c.args.part) none c.of_disk-cause.result
    (unsettled_as _ (publication_of_merge m c.args.name) (ap (λ (n : List ℕ). publication n c.args.part.sealed None) c.in-Ok.ensures) was.storage was.storage now.storage refl _ c.of_disk-cause.result c.of_disk-cause.ensures (c.in-Err-publish.ensures.turn annals)) (same_itself c.args.store.now)

-- it was settled
pub returns-clause-commits : goal.returns-clause-commits
returns-clause-commits g c = λ annals.
    let was : Root g.row.D-Arm-Dir.Denot = root_of c.args.store.now (g.D.Disk.told c.args.disk.now) (g.D.Disk.clock c.args.disk.now) (g.D.Disk.failed c.args.disk.now) annals in
    let m : Merging = merging c.args.table.now c.args.partition c.args.run c.args.part.sealed c.args.part.loaded in
    let from : MaySwap m c.args.name was = may c.args.store.now m c.args.name _ _ _ annals c.parts_in-parts.result.now c.parts_in-parts.ensures.parts c.parts_in-parts.ensures.ordered c.requires.ready c.requires.run c.requires.named (omega (arith, c.well_formed)) in
    let none = shown_at c.args.store.now c.faults.result (g.D.Disk.failed c.args.disk.now) c.refuse_stopped.result c.faults.ensures c.refuse_stopped.ensures ∙ c.in_default.is in
    let now : Root g.row.D-Arm-Dir.Denot = root_of (record { tables = c.args.store.now.tables; set = c.swap.new.self; mutations = c.args.store.now.mutations; length = c.args.store.now.length; opened = c.args.store.now.opened }) (g.D.Disk.told c.publish.new.disk) (g.D.Disk.clock c.publish.new.disk) (g.D.Disk.failed c.publish.new.disk) annals in
    committed (MaySwap m c.args.name was) _ (publication_of_merge m c.args.name) _ was now c.args.part (merges g.D.Arm.Dir.Dir.files m c.args.name was now from c.args.part) none _
    (published_as _ (publication_of_merge m c.args.name) (ap (λ (n : List ℕ). publication n c.args.part.sealed None) c.in-Ok.ensures) was.storage was.storage now.storage refl (c.in-Ok-publish.ensures.turn annals))
    (record {
      part = c.of-part.result;
      files_are = ap g.D.Arm.Dir.Dir.files c.of-part.ensures.dir ∙ c.in-Ok-publish.ensures.dir;
      loaded_is = c.of-part.ensures.loaded;
      swapped = c.swap.ensures.swapped;
      ordered = c.swap.ensures.ordered;
      others = c.swap.ensures.others;
      tables_are = refl;
      mutations_are = refl;
      length_is = refl;
      opened_is = refl;
    })
