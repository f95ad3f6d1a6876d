use Rattle.std.proofs.Common.{◌∙◌, arith}
use Rattle.session.specs.Turns.{NoneFailed}
use Rattle.session.proofs.Stacking.{later_have, turn_has}
use Rattle.session.proofs.sealing.give_back_parts.Goals as goal

pub parts-preserved : goal.parts-preserved
parts-preserved g c =
    let s = c.in-Some.field-0 in
    let popped = c.in-Some.ensures.items in
    record {
      left = λ all. later_have NoneFailed c.parts.parts.items c.pop.new.self.items s popped (c.parts.invariant.left all);
      tells = c.give_back_part.ensures.tells ∙ c.parts.invariant.tells;
      calm = λ all.
          let none = turn_has NoneFailed c.parts.parts.items c.pop.new.self.items s popped (c.parts.invariant.left all) in
          c.give_back_part.ensures.none_failed none ∙ c.parts.invariant.calm all;
      later = let more = c.give_back_part.ensures.later in let later = c.parts.invariant.later in omega arith;
    }
