use Rattle.std.proofs.Common.{List, refl, sym, ap, ◌∙◌, subst}
use Rattle.part_history.specs.declared.part.CorePart.{CorePart}
use Rattle.part_history.specs.Merges.{names_of}
use Rattle.part_history.specs.Parts.{AreInBlockOrder}
use Rattle.table_core.specs.declared.store.Table.{Table}
use Rattle.table_core.specs.Steps.{HasNeighbours, name_made, sources_among}
use Rattle.table_core.specs.Store.{Named, RunStands}
use Rattle.table_core.proofs.Keeping.{join_found, join_here, no_table, order_here, place_here, put_done, put_parted, put_store, put_unfound, put_unleveled, read_here}
use Rattle.table_core.proofs.Neighbours.{run_is, run_lies}
use Rattle.table_core.proofs.Stored.{one_value}
use Rattle.table_core.proofs.steps.put_part.Goals as goal

pub returns-in_default-clause-gives : goal.returns-in_default-clause-gives
returns-in_default-clause-gives c = (no_table c.args.store.now c.requires.store c.args.put.sources.table c.in_default.ensures.none, refl)

pub run_of-requires : goal.run_of-requires
run_of-requires c =
    let here = c.in-Some.ensures.there in
    let are = c.as_slice-parts.ensures ∙ ap (λ (t : Table). t.parts) (read_here c.args.store.now c.requires.store c.args.put.sources.table c.in-Some.place here c.index.result.now c.index.ensures) in
    subst AreInBlockOrder (sym are) (order_here c.args.store.now c.requires.store c.args.put.sources.table c.in-Some.place here)

pub returns-in_default-run_of-clause-gives : goal.returns-in_default-run_of-clause-gives
returns-in_default-run_of-clause-gives c =
    let here = c.in-Some.ensures.there in
    let are = c.as_slice-parts.ensures ∙ ap (λ (t : Table). t.parts) (read_here c.args.store.now c.requires.store c.args.put.sources.table c.in-Some.place here c.index.result.now c.index.ensures) in
    put_unfound c.args.store.now c.args.put c.in-Some.place c.requires.store here (λ has. c.in_default-run_of.ensures.none (subst (λ (ps : List CorePart). HasNeighbours ps c.args.put.sources) (sym are) has))

pub parts_of_run-found-requires : goal.parts_of_run-found-requires
parts_of_run-found-requires c = (run_lies c.as_slice-parts.result.now c.args.put.sources c.in-Some-run_of.run' c.in-Some-run_of.ensures.there).within

pub returns-then-not-may_join-clause-gives : goal.returns-then-not-may_join-clause-gives
returns-then-not-may_join-clause-gives c =
    let here = c.in-Some.ensures.there in
    let are = c.as_slice-parts.ensures ∙ ap (λ (t : Table). t.parts) (read_here c.args.store.now c.requires.store c.args.put.sources.table c.in-Some.place here c.index.result.now c.index.ensures) in
    let at = c.in-Some-run_of.ensures.there in
    let sources = c.parts_of_run-found.ensures ∙ (run_is c.as_slice-parts.result.now c.args.put.sources c.in-Some-run_of.run' at ∙ ap (λ (ps : List CorePart). sources_among ps c.args.put.sources) are) in
    put_parted c.args.store.now c.args.put c.in-Some.place c.requires.store here c.in-Some-run_of.run' (subst (λ (ps : List CorePart). RunStands ps c.args.put.sources c.in-Some-run_of.run') are at)
    (λ join.
    let yes = c.may_join.ensures.1 (join_found c.args.store.now c.args.put c.in-Some.place c.requires.store here c.parts_of_run-found.result.now sources join) in
    let never = c.if-not-may_join.true in
    cc)

pub returns-in_default-name_made-clause-gives : goal.returns-in_default-name_made-clause-gives
returns-in_default-name_made-clause-gives c =
    let here = c.in-Some.ensures.there in
    let are = c.as_slice-parts.ensures ∙ ap (λ (t : Table). t.parts) (read_here c.args.store.now c.requires.store c.args.put.sources.table c.in-Some.place here c.index.result.now c.index.ensures) in
    let at = c.in-Some-run_of.ensures.there in
    let sources = c.parts_of_run-found.ensures ∙ (run_is c.as_slice-parts.result.now c.args.put.sources c.in-Some-run_of.run' at ∙ ap (λ (ps : List CorePart). sources_among ps c.args.put.sources) are) in
    let join = join_here c.args.store.now c.args.put c.in-Some.place c.requires.store here c.parts_of_run-found.result.now sources (c.may_join.ensures.0 c.if-not-may_join.false) in
    put_unleveled c.args.store.now c.args.put c.in-Some.place c.requires.store here c.in-Some-run_of.run' (subst (λ (ps : List CorePart). RunStands ps c.args.put.sources c.in-Some-run_of.run') are at)
    c.requires.may join (λ name named. c.in_default-name_made.ensures.none name (ap (λ (ps : List CorePart). name_made c.args.put.task (names_of ps)) sources ∙ named))

pub returns-clause-gives : goal.returns-clause-gives
returns-clause-gives c =
    let here = c.in-Some.ensures.there in
    let are = c.as_slice-parts.ensures ∙ ap (λ (t : Table). t.parts) (read_here c.args.store.now c.requires.store c.args.put.sources.table c.in-Some.place here c.index.result.now c.index.ensures) in
    let at = c.in-Some-run_of.ensures.there in
    let sources = c.parts_of_run-found.ensures ∙ (run_is c.as_slice-parts.result.now c.args.put.sources c.in-Some-run_of.run' at ∙ ap (λ (ps : List CorePart). sources_among ps c.args.put.sources) are) in
    let join = join_here c.args.store.now c.args.put c.in-Some.place c.requires.store here c.parts_of_run-found.result.now sources (c.may_join.ensures.0 c.if-not-may_join.false) in
    let named = c.in-Some-name_made.ensures.named in
    put_done c.args.store.now c.swap_run.new.self c.args.put c.in-Some-name_made.name c.in-Some.place c.in-Some-run_of.run' c.requires.store here
    (subst (λ (ps : List CorePart). RunStands ps c.args.put.sources c.in-Some-run_of.run') are at) join (sym (ap (λ (ps : List CorePart). name_made c.args.put.task (names_of ps)) sources) ∙ named.0) named.1
    (c.swap_run.ensures.tables here.here (place_here c.args.store.now c.requires.store c.args.put.sources.table c.in-Some.place here)) c.swap_run.ensures.entries c.swap_run.ensures.snapshots c.swap_run.ensures.mutations

pub swap_run-requires-clause-run : goal.swap_run-requires-clause-run
swap_run-requires-clause-run c = λ t at.
    let here = c.in-Some.ensures.there in
    let are = c.as_slice-parts.ensures ∙ ap (λ (u : Table). u.parts) (read_here c.args.store.now c.requires.store c.args.put.sources.table c.in-Some.place here c.index.result.now c.index.ensures) in
    let same = one_value _ here.here t (place_here c.args.store.now c.requires.store c.args.put.sources.table c.in-Some.place here) at in
    run_lies t.1.parts c.args.put.sources c.in-Some-run_of.run' (subst (λ (ps : List CorePart). RunStands ps c.args.put.sources c.in-Some-run_of.run') (are ∙ ap (λ (x : Named). x.1.parts) same) c.in-Some-run_of.ensures.there)

pub returns-clause-store : goal.returns-clause-store
returns-clause-store c =
    let here = c.in-Some.ensures.there in
    let are = c.as_slice-parts.ensures ∙ ap (λ (t : Table). t.parts) (read_here c.args.store.now c.requires.store c.args.put.sources.table c.in-Some.place here c.index.result.now c.index.ensures) in
    let at = c.in-Some-run_of.ensures.there in
    let sources = c.parts_of_run-found.ensures ∙ (run_is c.as_slice-parts.result.now c.args.put.sources c.in-Some-run_of.run' at ∙ ap (λ (ps : List CorePart). sources_among ps c.args.put.sources) are) in
    let join = join_here c.args.store.now c.args.put c.in-Some.place c.requires.store here c.parts_of_run-found.result.now sources (c.may_join.ensures.0 c.if-not-may_join.false) in
    let named = c.in-Some-name_made.ensures.named in
    put_store c.args.store.now c.swap_run.new.self c.args.put c.in-Some-name_made.name c.in-Some.place c.in-Some-run_of.run' c.requires.store here
    (subst (λ (ps : List CorePart). RunStands ps c.args.put.sources c.in-Some-run_of.run') are at) join (sym (ap (λ (ps : List CorePart). name_made c.args.put.task (names_of ps)) sources) ∙ named.0) named.1
    (c.swap_run.ensures.tables here.here (place_here c.args.store.now c.requires.store c.args.put.sources.table c.in-Some.place here)) c.swap_run.ensures.entries c.swap_run.ensures.snapshots c.swap_run.ensures.mutations c.requires.may
