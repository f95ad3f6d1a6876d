use Rattle.std.proofs.Common.{◌≡◌, ◌<◌, ◌-◌, ◌∙◌, None, arith, length, refl, rules, slice_get, sym, take}
use Rattle.std.proofs.lemmas.Option.{slice_get-get_or, slice_get_read}
use Rattle.row_merge.specs.Heads.{ahead_of}
use Rattle.row_merge.specs.Merging.{ahead_at}
use Rattle.row_merge.proofs.Cursors.{at_within, in_range}
use Rattle.row_merge.proofs.Leading.{last_split}
use Rattle.row_merge.proofs.Passed.{last_has}
use Rattle.row_merge.proofs.passing.leading.Goals as goal

pub unreachable-requires : goal.unreachable-requires
unreachable-requires c =
    let ranked = c.args.ranked.now in
    let some = slice_get-get_or ranked (length ranked - 1) 0 (omega (arith, c.requires.some)) in
    let none : None ≡ slice_get ranked (length ranked - 1) = c.in_default.ensures.value in
    let bad = none ∙ some in
    cc

pub bounds-cursors-input : goal.bounds-cursors-input
bounds-cursors-input c =
    in_range c.args.cursors.now c.in-Some.input.now (last_has (λ x. 0 < length (ahead_at (ahead_of c.args.cursors.now) x)) c.args.ranked.now c.in-Some.input.now (sym c.in-Some.ensures.value) c.requires.ahead)

pub offset_bounds-cursors-input : goal.offset_bounds-cursors-input
offset_bounds-cursors-input c =
    let below = in_range c.args.cursors.now c.in-Some.input.now (last_has (λ x. 0 < length (ahead_at (ahead_of c.args.cursors.now) x)) c.args.ranked.now c.in-Some.input.now (sym c.in-Some.ensures.value) c.requires.ahead) in
    search rules

pub returns : goal.returns
returns c =
    let cursors = c.args.cursors.now in
    let ranked = c.args.ranked.now in
    let input = c.in-Some.input.now in
    let own = c.index-cursors-input.result in
    let some = last_has (λ x. 0 < length (ahead_at (ahead_of cursors) x)) ranked input (sym c.in-Some.ensures.value) c.requires.ahead in
    let below = in_range cursors input some in
    record {
      others = take (length ranked - 1) ranked;
      input = input;
      ranked_is = last_split ranked input (sym c.in-Some.ensures.value);
      there = slice_get_read cursors (length cursors) input own refl below c.index-cursors-input.is;
      some = at_within cursors input own below c.index-cursors-input.is some;
    }
