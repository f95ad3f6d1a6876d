use Rattle.std.proofs.Common.{◌∙◌, ◌++◌, ◌∷◌, [], List, ap, arith, get_or, sym}
use Rattle.std.proofs.lemmas.List.{get_or_default}
use Rattle.mt_values.specs.declared.expr.Test.{Test}
use Rattle.mt_values.specs.declared.value.Value.{Value}
use Rattle.final_fold.proofs.Renamed.{moved_more}
use Rattle.final_fold.proofs.asking.at_positions.Goals as goal

pub loop-number-preserved : goal.loop-number-preserved
loop-number-preserved c =
    let test = c.index-tests-number.result in
    let at = get_or c.args.positions.now c.loop-number.number 0 in
    c.in_ok-push.ensures.ok
    ∙ ap (λ (ls : List Value). c.loop-number.moved ++ record test { column = at; literals = ls } ∷ []) c.in_ok-twin.ensures
    ∙ ap (λ (ts : List Test). ts ++ record test { column = at } ∷ []) c.loop-number.invariant
    ∙ sym (moved_more c.args.positions.now c.args.tests.now c.loop-number.number at test c.requires c.loop-number-test.true (get_or_default c.args.positions.now c.loop-number.number 0 at (omega (arith, c.requires, c.loop-number-test.true))) c.index-tests-number.is)
