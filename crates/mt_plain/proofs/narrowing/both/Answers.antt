use Rattle.std.proofs.Common.{◌≤◌, ◌++◌, Bool, List, length, ap, sym, ◌∙◌, append-nil, arith}
use Rattle.part_history.proofs.PredicateNarrowing.{both_past}
use Rattle.mt_plain.proofs.narrowing.both.Goals as goal

pub returns-in_default : goal.returns-in_default
returns-in_default c =
    let answers = c.loop-place.answers.items in
    let past : length c.args.others.now ≤ c.loop-place.place = omega (arith, c.in_default.ensures.lookup) in
    sym (append-nil answers)
    ∙ (ap (λ (bs : List Bool). answers ++ bs) (sym (both_past c.args.some.now c.args.others.now c.loop-place.place past)) ∙ c.loop-place.invariant)
