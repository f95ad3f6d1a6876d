use Rattle.std.proofs.Common.{◌≡◌, ap, arith, length, map, ◌∙◌}
use Rattle.std.proofs.lemmas.List.{length-map}
use Rattle.std.proofs.lemmas.Result.{IfOk-weaker}
use Rattle.mt_values.specs.Tests.{eval}
use Rattle.on_fly.proofs.ByColumns.{rows_left, unmet_few, unmet_within}
use Rattle.on_fly.proofs.blocks.delete_in.Goals as goal

pub places_unmet-requires : goal.places_unmet-requires
places_unmet-requires c =
    let rows = c.args.block.now.rows in
    let asked : c.deref.result.now ≡ map (eval c.args.condition.now) rows = c.deref.ensures.value ∙ c.in_ok-met.ensures in
    omega (arith, ap length asked, length-map rows (eval c.args.condition.now), c.len-rows.ensures.few)

pub pick-requires-clause-within : goal.pick-requires-clause-within
pick-requires-clause-within c =
    let rows = c.args.block.now.rows in
    unmet_within (eval c.args.condition.now) rows c.deref.result.now c.deref-2.result.now (c.deref.ensures.value ∙ c.in_ok-met.ensures) (c.deref-2.ensures.value ∙ c.in_ok-left.ensures)

pub pick-requires-clause-few : goal.pick-requires-clause-few
pick-requires-clause-few c =
    let rows = c.args.block.now.rows in
    omega (
      arith,
      unmet_few (eval c.args.condition.now) rows c.deref.result.now c.deref-2.result.now (c.deref.ensures.value ∙ c.in_ok-met.ensures) (c.deref-2.ensures.value ∙ c.in_ok-left.ensures),
      c.len-rows.ensures.few,
    )

pub returns : goal.returns
returns c =
    let block = c.args.block.now in
    IfOk-weaker c.pick.result _ _
    (λ b is. rows_left block b (eval c.args.condition.now) c.deref.result.now c.deref-2.result.now (c.deref.ensures.value ∙ c.in_ok-met.ensures) (c.deref-2.ensures.value ∙ c.in_ok-left.ensures) is)
    c.pick.ensures
