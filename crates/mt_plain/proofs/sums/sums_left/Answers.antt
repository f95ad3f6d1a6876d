use Rattle.std.proofs.Common.{ap, map, ◌∙◌}
use Rattle.std.proofs.lemmas.List.{take_all}
use Rattle.mt_plain.proofs.Summing.{left_of, sums_exactly}
use Rattle.mt_plain.proofs.sums.sums_left.Goals as goal

pub returns : goal.returns
returns c =
    let places = c.args.places.now in
    let rows = c.args.rows.now in
    sums_exactly places rows c.loop-carried.outs.items (c.loop-carried.invariant ∙ ap (map (left_of places rows)) (take_all c.loop-carried.carried-index rows c.loop-carried-test.false))
