use Rattle.std.proofs.Common.{◌≡◌, ◌∙◌, Bool, true, false, ◌&&◌, ap, refl, sym}
use Rattle.mt_model.specs.predicate.Boxes.{can}
use Rattle.mt_model.specs.predicate.declared.extent.Can.{Can}
use Rattle.select_plan.proofs.choosing.is_unsure.Goals as goal

and_true : (a b : Bool) → b ≡ true → a ≡ (a && b)
and_true true b is = sym is
and_true false b is = refl

and_false : (a b : Bool) → b ≡ false → false ≡ (a && b)
and_false true b is = sym is
and_false false b is = refl

pub returns-then-is_chosen : goal.returns-then-is_chosen
returns-then-is_chosen c =
    ap (λ (k : Can). k.no) c.can.ensures ∙ and_true (can c.args.condition.now c.args.extent.now).no c.args.is_chosen c.if-is_chosen.true

pub returns : goal.returns
returns c = and_false (can c.args.condition.now c.args.extent.now).no c.args.is_chosen c.if-is_chosen.false
