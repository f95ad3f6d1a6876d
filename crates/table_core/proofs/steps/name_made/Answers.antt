use Rattle.std.proofs.Common.{◌≡◌, Some, arith, subst, sym}
use Rattle.std.specs.Prelude.{IfNone, IfSome}
use Rattle.part_history.specs.part_name.declared.part.PartName.{PartName}
use Rattle.part_history.specs.Merges.{names_of}
use Rattle.table_core.specs.declared.event.Task.{Task}
use Rattle.table_core.specs.declared.event.Task.TheVariants as task
use Rattle.table_core.specs.Steps.{FitsLevel, name_made}
use Rattle.table_core.proofs.Neighbours.{none_weaker, rewrite_fits, rewrite_none}
use Rattle.table_core.proofs.steps.name_made.Goals as goal

-- a level above the greatest is none that a part may have
pub returns-in-Merge-clause-none : goal.returns-in-Merge-clause-none
returns-in-Merge-clause-none c =
    let names = names_of c.args.sources.now in
    subst (λ (t : Task). IfNone c.merged_name.result ((name : PartName) → name_made t names ≡ Some name → FitsLevel t name → ⊥)) (sym c.in-Merge.is)
    (none_weaker c.merged_name.result (λ past name named fits. let over = past name named in absurd (omega (arith, over, fits))) c.merged_name.ensures.none)

pub returns-in-Rewrite-clause-named : goal.returns-in-Rewrite-clause-named
returns-in-Rewrite-clause-named c =
    let names = names_of c.args.sources.now in
    subst (λ (t : Task). IfSome c.rewritten_name.result (λ name. (name_made t names ≡ Some name) × FitsLevel t name)) (sym c.in-Rewrite.is)
    (rewrite_fits c.rewritten_name.result (name_made (task.Rewrite c.in-Rewrite.upto) names) c.rewritten_name.ensures)

pub returns-in-Rewrite-clause-none : goal.returns-in-Rewrite-clause-none
returns-in-Rewrite-clause-none c =
    let names = names_of c.args.sources.now in
    subst (λ (t : Task). IfNone c.rewritten_name.result ((name : PartName) → name_made t names ≡ Some name → FitsLevel t name → ⊥)) (sym c.in-Rewrite.is)
    (rewrite_none c.rewritten_name.result (name_made (task.Rewrite c.in-Rewrite.upto) names) c.rewritten_name.ensures)
