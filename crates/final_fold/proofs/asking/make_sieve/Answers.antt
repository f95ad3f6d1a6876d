use Rattle.std.proofs.Common.{◌≡◌, ◌∙◌, Some, ap, length, map, refl, slice_get, subst, sym}
use Rattle.mt_values.specs.declared.expr.Test.{Test}
use Rattle.mt_values.specs.Conditions.{Condition, tests_of}
use Rattle.mt_values.specs.Order.{key_of}
use Rattle.mt_values.specs.Tests.{eval}
use Rattle.final_fold.proofs.Making.{length-moved}
use Rattle.final_fold.proofs.Renamed.{AreFound, at_place, condition_same, moved_is, tests_found}
use Rattle.final_fold.proofs.asking.make_sieve.Goals as goal

pub with_tests-requires : goal.with_tests-requires
with_tests-requires c =
    ap length c.in_ok-moved.ensures ∙ length-moved c.args.positions.now c.tests.result.now (c.requires ∙ ap length (sym c.tests.ensures)) ∙ ap length c.tests.ensures

pub returns : goal.returns
returns c = λ read once shown.
    let positions = c.args.positions.now in
    let tests = c.tests.result.now in
    let condition = c.args.conjunct.now.condition.now in
    let named : map (slice_get read) positions ≡ map Some (map (λ (t : Test). t.column) tests) = shown ∙ ap (λ ts. map Some (map (λ (t : Test). t.column) ts)) (sym c.tests.ensures) in
    let moved : c.in_ok-moved.moved ≡ map (at_place read) (tests_of condition) = c.in_ok-moved.ensures ∙ moved_is read positions tests once named ∙ ap (map (at_place read)) c.tests.ensures in
    record {
      granules = refl;
      same = λ row within.
          ap (λ (d : Condition Test). eval d (key_of read row)) (c.in_ok-condition.ensures (at_place read) moved)
          ∙ condition_same read row within condition (subst (AreFound read) c.tests.ensures (tests_found read positions tests once named));
    }
