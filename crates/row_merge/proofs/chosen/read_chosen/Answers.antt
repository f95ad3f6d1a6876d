use Rattle.std.proofs.Common.{◌∙◌, ◌∷◌, [], ◌++◌, List, Some, ap, ap₂, arith, length, refl, sym}
use Rattle.std.proofs.lemmas.List.{take_all}
use Rattle.std.proofs.lemmas.Option.{slice_get_read}
use Rattle.part_reader.specs.Readings.{Reading}
use Rattle.row_merge.specs.Streams.{chosen_readers, share}
use Rattle.row_merge.proofs.ChosenGranules.{reader_for, readers_many, readers_next}
use Rattle.row_merge.proofs.chosen.read_chosen.Goals as goal

pub bounds-chosen-number : goal.bounds-chosen-number
bounds-chosen-number g c =
    let many = c.requires.chosen in
    omega (arith, many, c.loop-number-test.true)

pub loop-number-preserved : goal.loop-number-preserved
loop-number-preserved g c =
    let parts = c.args.parts.now in
    let chosen = c.args.chosen.now in
    let i = c.loop-number.number in
    let kept = c.index-parts-number.result in
    let own = c.as_slice-own.result.now in
    let many = c.requires.chosen in
    let below = c.loop-number-test.true in
    let kept_is = slice_get_read parts (length parts) i kept refl below c.index-parts-number.is in
    let own_is = slice_get_read chosen (length chosen) i c.index-chosen-number.result refl (omega (arith, many, below)) c.index-chosen-number.is ∙ ap Some (sym c.as_slice-own.ensures) in
    let schema = c.args.schema.now in
    let columns = c.args.columns.now in
    let most = share (length parts) (length columns) in
    let reader = c.in_ok-reader.ensures ∙ ap (reader_for schema columns kept own) c.share_of-most.ensures.exact in
    c.in_ok-push.ensures.items ∙ ap₂ (λ (rs : List (Reading _)) (r : Reading _). rs ++ r ∷ []) c.loop-number.invariant reader ∙ sym (readers_next schema columns most parts chosen i kept own kept_is own_is)

pub returns : goal.returns
returns g c =
    let parts = c.args.parts.now in
    let chosen = c.args.chosen.now in
    let all = chosen_readers c.args.schema.now c.args.columns.now (share (length parts) (length c.args.columns.now)) parts chosen in
    let long = readers_many c.args.schema.now c.args.columns.now (share (length parts) (length c.args.columns.now)) parts chosen c.requires.chosen in
    c.loop-number.invariant ∙ take_all c.loop-number.number all (omega (arith, long, c.loop-number-test.false))
