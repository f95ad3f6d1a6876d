use Rattle.std.proofs.Common.{◌≡◌, ap, ◌∙◌, arith, get_or, map, slice_get, take, Some}
use Rattle.std.proofs.lemmas.List.{get_or_default, take_all}
use Rattle.final_fold.proofs.Picking.{chosen_more, once, shown_more}
use Rattle.final_fold.proofs.picked.pick_columns.Goals as goal

pub loop-place-preserved : goal.loop-place-preserved
loop-place-preserved c =
    let places = c.args.places.now in
    let k = c.loop-place.place-index in
    let place = get_or places k 0 in
    let below = c.loop-place-test.true in
    let same = get_or_default places k 0 place below in
    let i = c.loop-place.invariant in
    let e = c.in_ok-at.ensures in
    let read = c.loop-place.read.items in
    let new = c.find_or_add.new.read.items in
    record {
      width = e.width ∙ i.width;
      found = e.found;
      shown = ap (map (slice_get new)) c.in_ok-push.ensures.items ∙ shown_more places read new place e.grown c.loop-place.shown.items k c.in_ok-at.at below same e.there i.shown;
      selected = chosen_more places read new place e.grown k below same i.selected;
    }

pub returns : goal.returns
returns c =
    let i = c.loop-place.invariant in
    let all : take c.loop-place.place-index c.args.places.now ≡ c.args.places.now = take_all c.loop-place.place-index c.args.places.now (omega arith) in
    record {
      shown = i.shown ∙ ap (map Some) all;
      once = once c.loop-place.found.items c.loop-place.read.items i.found;
      selected = i.selected;
    }
