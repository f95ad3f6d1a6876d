use Rattle.std.proofs.Common.{◌++◌, ◌∷◌, [], slice_get, sym, ap, ◌∙◌}
use Rattle.std.specs.List.{filter_map}
use Rattle.std.proofs.lemmas.List.{take_all}
use Rattle.mt_values.proofs.Grids.{picked_more}
use Rattle.mt_values.proofs.strings.Strings.pick.Goals as goal

pub at-requires : goal.at-requires
at-requires c = c.requires c.loop-place.place-index 0 c.loop-place-test.true

pub loop-place-preserved : goal.loop-place-preserved
loop-place-preserved c =
    c.in_ok-push.ensures.ok
    ∙ ap (λ ts. ts ++ c.at.result.now ∷ []) c.loop-place.invariant
    ∙ sym (picked_more (slice_get c.args.self.now) c.args.order.now c.loop-place.place-index c.at.result.now c.loop-place-test.true c.at.ensures)

pub returns : goal.returns
returns c = c.loop-place.invariant ∙ ap (filter_map (slice_get c.args.self.now)) (take_all c.loop-place.place-index c.args.order.now c.loop-place-test.false)
