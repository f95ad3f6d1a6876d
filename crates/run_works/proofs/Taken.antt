-- Works that were taken up, and the schema of a table that is pinned.
use Rattle.std.proofs.Common.{◌≡◌, ◌<◌, Option, Some, None, Result, Ok, IfOk, IfSome, List, ℕ, length, sym, ap, subst, arith}
use Rattle.std.specs.Option.{ok_or}
use Rattle.mt_program.proofs.SharedStoreStanding.{long_run}
use Rattle.mt_program.specs.session.mt_model.History.{IsTableSchema}
use Rattle.mt_program.specs.session.shared_store.Engines.{GoesOn, IsOpen, Opened, Snaps}
use Rattle.mt_program.specs.session.shared_store.Works.{TakesPair, TakesUp, parts_beside}
use Rattle.mt_program.specs.session.shared_store.declared.work.Work.{Work}
use Rattle.mt_program.specs.session.shared_store.mutation_queue.declared.scope.Scope.{Scope}
use Rattle.mt_program.specs.session.shared_store.part_reader.declared.reading.Part.{Part}
use Rattle.mt_program.specs.session.shared_store.part_set.declared.kept.Kept.{Kept}
use Rattle.mt_program.specs.session.shared_store.part_set.declared.kept.Snap.{Snap}
use Rattle.mt_program.specs.session.shared_store.part_set.declared.run.Run.{Run}
use Rattle.mt_program.specs.session.shared_store.root_store.declared.store.CoreStore.{CoreStore}
use Rattle.run_works.specs.Works.{MayBeMerged}

-- what is there where an error else is answered
pub ok_there : {T E : Type 0} (P : T → Type 0) (found : Option T) (why : E) (answer : Result T E)
    → answer ≡ ok_or found why → IfSome found P → IfOk answer P
ok_there P (Some x) why answer is held = subst (λ r. IfOk r P) (sym is) held
ok_there P None why answer is held = subst (λ r. IfOk r P) (sym is) tt

-- it is there where it is answered
pub some_there : {T E : Type 0} (found : Option T) (why : E) (answer : Result T E) (x : T)
    → answer ≡ ok_or found why → answer ≡ Ok x → found ≡ Some x
some_there (Some y) why answer x is there = cc
some_there None why answer x is there = cc

-- a work that was taken up has a source, since its run has a part
some_taken : {F : Type 0} (was now : CoreStore F) (work : Work F) (run : Run) → TakesUp was now work run → 0 < length work.sources.items
some_taken {F} was now work run t =
    let long = long_run run (parts_beside was work) t.is in
    let one = t.is.some in
    let same = ap (λ (ks : List (Kept (Part F))). length ks) t.sources_are in
    omega (arith, long, one, same)

-- a pair that is taken up may be merged
pub may_be_merged : {F : Type 0} (scope : Scope) (was now : Opened F) (found : Option (Work F))
    → GoesOn was now → TakesPair scope was now (Ok found) → IfSome found MayBeMerged
may_be_merged scope was now None goes takes = tt
may_be_merged scope was now (Some work) goes takes =
    let t = takes.2.takes in
    record {
      some = some_taken was.store now.store work takes.0 t;
      schema = subst IsTableSchema (sym t.schema_is) (goes.found.sound.tables work.table t.made t.there).schema;
    }

-- the schema of a snapshot is that of a table
pub snap_schema : {F : Type 0} (root : Opened F) (table : List ℕ) (found : Option (Snap (Part F))) (snap : Snap (Part F))
    → IsOpen root → Snaps root.store table found → found ≡ Some snap → IsTableSchema snap.schema
snap_schema root table found snap ready snaps is =
    let pinned = subst (Snaps root.store table) is snaps in
    subst IsTableSchema (sym pinned.schema) (ready.sound.tables table pinned.made pinned.there).schema
