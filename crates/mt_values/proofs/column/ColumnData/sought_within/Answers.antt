use Rattle.std.proofs.Common.{◌≡◌, ◌∙◌, ◌<◌, ◌+◌, ◌++◌, ◌∷◌, [], Bool, List, Some, ap, ap₂, arith, length, map, slice_get, sym}
use Rattle.std.proofs.lemmas.List.{take_all}
use Rattle.std.proofs.lemmas.Option.{get_or_from_slice_get}
use Rattle.mt_values.specs.Cells.{value_of}
use Rattle.mt_values.specs.Lists.{run_of}
use Rattle.mt_values.specs.Tests.{is_among}
use Rattle.mt_values.proofs.Masks.{length_run, masked_more, run_at}
use Rattle.mt_values.proofs.column.ColumnData.sought_within.Goals as goal

pub loop-place-init : goal.loop-place-init
loop-place-init c = record { found = c.in_ok-mask.ensures.items; many = c.in_ok-mask.ensures.len; room = c.in_ok-mask.ensures.exact }

pub overflow_add-from : goal.overflow_add-from
overflow_add-from c = record { fits = omega (arith, c.loop-place-test.true, c.requires, c.len-values.ensures.count, c.len-values.type_inv) }

pub push_reserved-requires : goal.push_reserved-requires
push_reserved-requires c = omega (arith, c.loop-place.invariant.many, c.loop-place.invariant.room, c.loop-place-test.true)

pub loop-place-preserved : goal.loop-place-preserved
loop-place-preserved c =
    let values = c.args.self.now.values in
    let place = c.loop-place.place in
    let run = run_of c.args.from c.args.count values in
    let value = value_of c.at.result in
    let below : place < c.args.count = c.loop-place-test.true in
    let within : place < length run = omega (arith, below, length_run c.args.from c.args.count values c.requires) in
    let here : slice_get run place ≡ Some value = run_at c.args.from c.args.count place values below ∙ c.at.ensures in
    record {
      found =
          c.push_reserved.ensures.items
          ∙ ap₂ (λ (bs : List Bool) (b : Bool). bs ++ b ∷ []) c.loop-place.invariant.found c.has.ensures
          ∙ sym (masked_more (is_among c.args.literals.now) run place value within (sym (get_or_from_slice_get run place value value here)));
      many = c.push_reserved.ensures.len ∙ ap (λ n. n + 1) c.loop-place.invariant.many;
      room = c.push_reserved.ensures.capacity ∙ c.loop-place.invariant.room;
    }

pub returns : goal.returns
returns c =
    let run = run_of c.args.from c.args.count c.args.self.now.values in
    c.loop-place.invariant.found
    ∙ ap (map (is_among c.args.literals.now)) (take_all c.loop-place.place run (omega (arith, c.loop-place-test.false, length_run c.args.from c.args.count c.args.self.now.values c.requires)))
