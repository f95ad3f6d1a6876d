use Rattle.std.proofs.Common.{◌∙◌, refl, ap, false, inl, inr, arith}
use Rattle.std.specs.Prelude.{slice_index_or}
use Rattle.on_fly.proofs.Marking.{ends_marked, marked_one, unmarked_more}
use Rattle.on_fly.proofs.unknown.mark.Goals as goal

pub room-init : goal.room-init
room-init c = record { same = λ place. refl; grown = inl refl }

pub room-preserved : goal.room-preserved
room-preserved c = record {
  same = λ place.
      ap (λ marks. slice_index_or marks place false) c.in_ok-push.ensures.items
      ∙ (unmarked_more c.room.unknown.items place ∙ c.room.invariant.same place);
  grown = inr (omega (arith, c.in_ok-push.ensures.len, c.len.ensures, c.room-test.true));
}

pub returns-clause-marks : goal.returns-clause-marks
returns-clause-marks c = λ place.
    marked_one c.room.unknown.items c.args.unknown.now.items c.args.column place (omega (arith, c.len.ensures, c.room-test.false)) (c.room.invariant.same place)

pub returns-clause-ends : goal.returns-clause-ends
returns-clause-ends c =
    ends_marked c.room.unknown.items c.args.unknown.now.items c.args.column (omega (arith, c.len.ensures, c.room-test.false)) c.room.invariant.same c.room.invariant.grown
