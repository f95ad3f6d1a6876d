use Rattle.std.proofs.Common.{◌≡◌, ap, arith, map, sym, ◌∙◌}
use Rattle.std.proofs.lemmas.Result.{IfOk-weaker}
use Rattle.mt_values.specs.Grid.{Grid, rows_of, rows_within}
use Rattle.mt_values.specs.Tests.{eval}
use Rattle.on_fly.proofs.blocks.met_by.Goals as goal

pub mask_within-requires : goal.mask_within-requires
mask_within-requires c = λ k d below. omega (arith, c.columns.ensures.even k d below, c.len.ensures.count)

pub returns : goal.returns
returns c =
    let columns = c.columns.result.now in
    let same : rows_within columns 0 c.len.result ≡ c.args.block.now.rows =
    ap (rows_of columns) c.len.ensures.count ∙ sym (ap (λ (g : Grid). g.rows) c.columns.ensures.block) in
    IfOk-weaker c.mask_within.result _ _ (λ met is. is ∙ ap (map (eval c.args.condition.now)) same) c.mask_within.ensures
