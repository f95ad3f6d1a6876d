use Rattle.std.proofs.Common.{All, List, ap, map, subst, sym, ◌∙◌}
use Rattle.std.proofs.lemmas.Result.{IfOk-weaker}
use Rattle.mt_values.specs.declared.change.Assignment.{Assignment}
use Rattle.mt_values.specs.declared.change.Change.{Change}
use Rattle.mt_values.specs.Changes.{changed}
use Rattle.on_fly.specs.Updates.{IsOfTypes, KeepsTypes, updated_if}
use Rattle.on_fly.proofs.ByColumns.{with_rows}
use Rattle.on_fly.proofs.blocks.change_block.Goals as goal

pub returns-in-Delete : goal.returns-in-Delete
returns-in-Delete c =
    let g = c.args.block.now in
    IfOk-weaker c.delete_in.result _ _ (λ b is. is ∙ ap (λ (x : Change). with_rows g (changed x g.rows)) (sym c.in-Delete.is)) c.delete_in.ensures

pub update_in-requires : goal.update_in-requires
update_in-requires c =
    let types = c.args.block.now.types in
    subst (All (IsOfTypes types)) (sym c.as_slice.ensures) (subst (KeepsTypes types) c.in-Update.is c.requires)

pub returns-in-Update : goal.returns-in-Update
returns-in-Update c =
    let g = c.args.block.now in
    IfOk-weaker c.update_in.result _ _
    (λ b is. is
    ∙ (ap (λ (puts : List Assignment). with_rows g (map (updated_if puts c.in-Update.condition) g.rows)) c.as_slice.ensures
    ∙ ap (λ (x : Change). with_rows g (changed x g.rows)) (sym c.in-Update.is)))
    c.update_in.ensures
