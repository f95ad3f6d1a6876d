use Rattle.std.proofs.Common.{◌≡◌, ◌∙◌, List, Some, ap, refl, subst, sym}
use Rattle.std.specs.Prelude.{Vec}
use Rattle.std.specs.declared.alloc.Global.{Global}
use Rattle.mt_values.specs.Values.{Row}
use Rattle.table_core.specs.mt_model.History.{schema_of}
use Rattle.table_core.specs.part_history.declared.part.CorePart.{CorePart}
use Rattle.table_core.specs.part_history.Parts.{core_parts_of, parts_in}
use Rattle.row_merge.specs.Merged.{inputs_of}
use Rattle.table_core.specs.declared.event.Task.TheVariants as task
use Rattle.table_core.specs.Core.{Core, IsCore}
use Rattle.run_memory.specs.Events.{AreOfEvents}
use Rattle.run_memory.specs.Putting.{LeftOfRun, rows_of_each}
use Rattle.run_memory.proofs.Putting.{put_may}
use Rattle.run_memory.proofs.courses.Course.merge_of.Goals as goal

pub returns : goal.returns
returns c =
    let at = c.self.view_is in
    let sources = c.args.sources in
    let table = sources.table in
    let schema = c.in-Some.schema.now in
    let own = c.in_ok-own.own.items in
    let given = c.in-Some.ensures in
    let found : schema_of table c.self.inside.state.history ≡ Some schema = cc in
    let value = c.deref.ensures.value in
    let same : c.deref.result.now ≡ own = cc in
    let left = subst (λ (xs : List (Vec Row Global)). LeftOfRun schema sources.first sources.count (inputs_of xs) c.in_ok-rows.rows) same c.in_ok-rows.ensures in
    put_may c.args.self.now (record { sources = sources; task = task.Merge; rows = c.in_ok-rows.rows }) schema (inputs_of own) refl
    (subst IsCore at c.self.invariant.holds) (subst (λ (core : Core). AreOfEvents core.history) at c.self.invariant.tables)
    (ap (λ (core : Core). schema_of table core.history) (sym at) ∙ found)
    (c.in_ok-own.ensures ∙ ap (λ (parts : List CorePart). rows_of_each (parts_in sources.partition parts)) (c.parts.ensures ∙ ap (λ (core : Core). core_parts_of table core.parts) at))
    left
