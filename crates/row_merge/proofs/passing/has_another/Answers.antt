use Rattle.std.proofs.Common.{◌≡◌, ◌<◌, ◌-◌, ap, arith, false, length, length-drop, rules, sym, take, true}
use Rattle.row_merge.specs.Heads.{ahead_of}
use Rattle.row_merge.specs.Merging.{ahead_at}
use Rattle.row_merge.proofs.Cursors.{ahead_is, in_range}
use Rattle.row_merge.proofs.Leading.{last_split}
use Rattle.row_merge.proofs.Passed.{last_has}
use Rattle.row_merge.proofs.passing.has_another.Goals as goal

clash : false ≡ true → ⊥
clash e = cc

pub returns-in_default : goal.returns-in_default
returns-in_default c = λ told. absurd (clash told)

pub bounds-cursors-input : goal.bounds-cursors-input
bounds-cursors-input c =
    in_range c.args.cursors.now c.in-Some.input.now (last_has (λ x. 0 < length (ahead_at (ahead_of c.args.cursors.now) x)) c.args.ranked.now c.in-Some.input.now (sym c.in-Some.ensures.value) c.requires)

pub offset_bounds-cursors-input : goal.offset_bounds-cursors-input
offset_bounds-cursors-input c =
    let below = in_range c.args.cursors.now c.in-Some.input.now (last_has (λ x. 0 < length (ahead_at (ahead_of c.args.cursors.now) x)) c.args.ranked.now c.in-Some.input.now (sym c.in-Some.ensures.value) c.requires) in
    search rules

pub returns : goal.returns
returns c = λ told.
    let cursors = c.args.cursors.now in
    let ranked = c.args.ranked.now in
    let input = c.in-Some.input.now in
    let own = c.index-cursors-input.result in
    let some = last_has (λ x. 0 < length (ahead_at (ahead_of cursors) x)) ranked input (sym c.in-Some.ensures.value) c.requires in
    let below = in_range cursors input some in
    let more : 1 < length own.block.rows - own.at = grind arith in
    record {
      others = take (length ranked - 1) ranked;
      input = input;
      ranked_is = last_split ranked input (sym c.in-Some.ensures.value);
      two = omega (arith, more, ap length (ahead_is cursors input own below c.index-cursors-input.is), length-drop own.at own.block.rows);
    }
