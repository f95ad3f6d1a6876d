use Rattle.std.proofs.Common.{◌≤◌, length, sym, ◌∙◌, arith}
use Rattle.mt_plain.proofs.Tallying.{unknown_past}
use Rattle.mt_plain.proofs.boxes.known_among.Goals as goal

pub returns-in_default : goal.returns-in_default
returns-in_default c =
    let past : length c.args.keys.now ≤ c.loop-column.column = omega (arith, c.in_default.ensures.lookup) in
    sym (unknown_past c.args.places.now c.args.keys.now c.loop-column.column c.args.place past) ∙ c.loop-column.invariant
