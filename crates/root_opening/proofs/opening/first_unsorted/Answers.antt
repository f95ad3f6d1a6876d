use Rattle.std.proofs.Common.{◌∙◌}
use Rattle.root_opening.proofs.Opened.{next_below, rise_from_next}
use Rattle.root_opening.proofs.opening.first_unsorted.Goals as goal

pub returns-in_default : goal.returns-in_default
returns-in_default c = record {
  none = tt;
  found = c.loop-place-test.true;
  told = λ rise.
      let less = next_below c.args.texts.now c.loop-place.place c.index-texts-place.result c.index-texts-place-in-loop-place.result rise c.loop-place.auto.place c.loop-place-test.true
      c.index-texts-place.is c.index-texts-place-in-loop-place.is in
      absurd (c.in_default.not-Less (c.cmp.ensures ∙ less));
}

pub returns-clause-none : goal.returns-clause-none
returns-clause-none c = rise_from_next c.args.texts.now c.loop-place.place c.loop-place-test.false c.loop-place.invariant.1
