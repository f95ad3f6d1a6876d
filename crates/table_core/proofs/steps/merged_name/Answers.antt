use Rattle.std.proofs.Common.{Some, None, cond, nat_lt, ap, ◌∙◌}
use Rattle.part_history.specs.part_name.declared.part.PartName.{PartName}
use Rattle.part_history.specs.part_name.Merged.{raised}
use Rattle.table_core.proofs.Neighbours.{merge_named, merge_none, merge_unnamed}
use Rattle.table_core.proofs.steps.merged_name.Goals as goal

pub returns-in_default-clause-none : goal.returns-in_default-clause-none
returns-in_default-clause-none c = merge_none c.args.sources.now c.in_default.ensures.cases

pub returns-clause-named : goal.returns-clause-named
returns-clause-named c =
    merge_named c.args.sources.now c.in-Some.first.now c.in-Some.rest.now c.raise.result c.in-Some.ensures.cases.0
    (c.raise.ensures ∙ ap (λ (name : PartName). cond (nat_lt name.level 4294967295) (Some (raised name)) None) c.joined_name.ensures)

pub returns-clause-none : goal.returns-clause-none
returns-clause-none c =
    merge_unnamed c.args.sources.now c.in-Some.first.now c.in-Some.rest.now c.raise.result c.in-Some.ensures.cases.0
    (c.raise.ensures ∙ ap (λ (name : PartName). cond (nat_lt name.level 4294967295) (Some (raised name)) None) c.joined_name.ensures)
