use Rattle.std.proofs.Common.{◌∷◌, ◌∙◌, [], All, ap, inr, subst, sym}
use Rattle.std.specs.Ordering.{is_ne}
use Rattle.std.proofs.lemmas.List.Elements.{All-head}
use Rattle.mt_values.specs.Order.{HasPlaces}
use Rattle.row_merge.specs.Course.{HoldsKey, HoldsRows}
use Rattle.row_merge.proofs.Courses.{key_typed}
use Rattle.row_merge.proofs.course.take_in.Goals as goal

pub returns-then-is_ne-clause-takes : goal.returns-then-is_ne-clause-takes
returns-then-is_ne-clause-takes g c = λ pending held all own placed row_placed.
    let rule = c.args.rule.now in
    let places = c.args.places.now in
    let holds = g.Q.RowRule.holds rule in
    let key = c.in-Some.held in
    let of : HoldsRows holds key pending = subst (λ x. HoldsKey holds x pending) c.in-Some.is held in
    let first = All-head (HasPlaces places) key.first of.others (subst (All (HasPlaces places)) of.pending_is placed) in
    let new = c.in_ok-begin_key-in-Some.ensures in
    inr (record {
      first = key.first;
      others = of.others;
      pending_is = of.pending_is;
      other = sym (ap is_ne (c.cmp_rows.ensures first row_placed)) ∙ sym c.is_ne.ensures ∙ c.if-is_ne.true;
      ran = c.in_ok-kept-in-Some.ensures pending all of.held;
      holds_one = record { others = []; pending_is = ap (λ r. r ∷ []) (sym new.0); held = new.1 own };
    })

pub returns-then-is_ne-clause-typed : goal.returns-then-is_ne-clause-typed
returns-then-is_ne-clause-typed g c = λ pending types held all typed.
    let rule = c.args.rule.now in
    key_typed (g.Q.RowRule.holds rule) (g.Q.RowRule.run rule) (g.Q.RowRule.takes rule) c.args.current c.in-Some.held pending c.in_ok-kept-in-Some.kept.items c.in-Some.is held all c.in_ok-kept-in-Some.ensures types typed
    (g.met.Q.RowRule.stays_taken rule)
