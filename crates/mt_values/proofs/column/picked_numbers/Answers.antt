use Rattle.std.proofs.Common.{◌≡◌, ◌<◌, ◌+◌, ◌++◌, ◌∷◌, [], Some, length, get_or, slice_get, refl, sym, ap, ◌∙◌, arith}
use Rattle.std.specs.List.{filter_map}
use Rattle.std.proofs.lemmas.List.{take_all}
use Rattle.std.proofs.lemmas.Option.{slice_get_read}
use Rattle.mt_values.proofs.Grids.{picked_more}
use Rattle.mt_values.proofs.column.picked_numbers.Goals as goal

pub loop-place-init : goal.loop-place-init
loop-place-init g c = record { picked = c.in_ok-picked.ensures.items; count = c.in_ok-picked.ensures.len; room = c.in_ok-picked.ensures.exact }

pub push_reserved-requires : goal.push_reserved-requires
push_reserved-requires g c = omega (arith, c.loop-place.invariant.count, c.loop-place.invariant.room, c.loop-place-test.true)

pub loop-place-preserved : goal.loop-place-preserved
loop-place-preserved g c =
    let numbers = c.args.numbers.now in
    let order = c.args.order.now in
    let index = c.loop-place.place-index in
    let number = c.index-numbers-place.result in
    let within : get_or order index 0 < length numbers = c.requires index 0 c.loop-place-test.true in
    let found : slice_get numbers (get_or order index 0) ≡ Some number = slice_get_read numbers (length numbers) (get_or order index 0) number refl within c.index-numbers-place.is in
    record {
      picked =
          c.push_reserved.ensures.items
          ∙ ap (λ xs. xs ++ number ∷ []) c.loop-place.invariant.picked
          ∙ sym (picked_more (slice_get numbers) order index number c.loop-place-test.true found);
      count = c.push_reserved.ensures.len ∙ ap (λ n. n + 1) c.loop-place.invariant.count;
      room = c.push_reserved.ensures.capacity ∙ c.loop-place.invariant.room;
    }

pub returns : goal.returns
returns g c = c.loop-place.invariant.picked ∙ ap (filter_map (slice_get c.args.numbers.now)) (take_all c.loop-place.place-index c.args.order.now c.loop-place-test.false)
