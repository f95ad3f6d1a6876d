use Rattle.std.proofs.Common.{◌≡◌, ◌-◌, ◌∙◌, ℕ, List, Some, ap, refl, subst, sym}
use Rattle.std.specs.Prelude.{filter, nat_le, slice_get}
use Rattle.mt_values.specs.declared.mutation.Mutation.{Mutation}
use Rattle.mt_values.specs.Changes.{mutated}
use Rattle.table_core.specs.mt_model.Numbers.{mutations_in}
use Rattle.table_core.specs.part_history.declared.part.CorePart.{CorePart}
use Rattle.table_core.specs.part_history.Parts.{core_parts_of, parts_in}
use Rattle.table_core.specs.part_name.Pending.{pending_for, pending_upto}
use Rattle.table_core.specs.declared.event.Task.TheVariants as task
use Rattle.table_core.specs.Core.{Core, IsCore}
use Rattle.table_core.specs.Steps.{beside}
use Rattle.run_memory.proofs.Rewriting.{rewrite_may}
use Rattle.run_memory.proofs.courses.Course.rewrite_of.Goals as goal

pub returns : goal.returns
returns c =
    let at = c.self.view_is in
    let core = c.args.self.now in
    let sources = c.args.sources in
    let table = sources.table in
    let source = c.in-Some.part.now in
    let last = c.in-Some-last_of.last.now in
    let place = c.args.count - 1 in
    let given = c.in-Some.ensures in
    let asked = c.in-Some-last_of.ensures in
    let parts_are : c.parts-parts.result.now ≡ beside core sources = c.parts-parts.ensures ∙ ap (λ (q : Core). core_parts_of table q.parts) at in
    let among : slice_get (parts_in sources.partition c.parts-parts.result.now) sources.first ≡ Some source = cc in
    let found : slice_get (parts_in sources.partition (beside core sources)) sources.first ≡ Some source = ap (λ (parts : List CorePart). slice_get (parts_in sources.partition parts) sources.first) (sym parts_are) ∙ among in
    let pending_are : c.pending_in-pending.result.now ≡ pending_for (mutations_in table core.history) source.name =
    c.pending_in-pending.ensures ∙ ap (λ (ms : List Mutation). pending_for ms source.name) (c.mutations.ensures.mutations ∙ ap (λ (q : Core). mutations_in table q.history) at) in
    let there : slice_get c.pending_in-pending.result.now place ≡ Some last = cc in
    let waits : slice_get (pending_for (mutations_in table core.history) source.name) place ≡ Some last = ap (λ (ms : List Mutation). slice_get ms place) (sym pending_are) ∙ there in
    let rows : c.in_ok-rows.rows ≡ mutated (pending_upto last.number (mutations_in table core.history) source.name) source.rows =
    c.in_ok-rows.ensures ∙ ap (λ (ms : List Mutation). mutated (filter (λ (m : Mutation). nat_le m.number last.number) ms) source.rows) pending_are in
    rewrite_may core (record { sources = sources; task = task.Rewrite last.number; rows = c.in_ok-rows.rows }) source last place refl c.requires (subst IsCore at c.self.invariant.holds) found waits rows
