use Rattle.std.proofs.Common.{nat_eq, sym, ap, ◌∙◌, ◌||◌}
use Rattle.std.specs.List.{list_any}
use Rattle.std.specs.Prelude.{false, slice_index_or}
use Rattle.std.proofs.lemmas.List.{take_all}
use Rattle.mt_values.specs.declared.change.Assignment.{Assignment}
use Rattle.on_fly.proofs.Marking.{marked_more, or_false}
use Rattle.on_fly.proofs.unknown.mark_all.Goals as goal

pub loop-assignment-init : goal.loop-assignment-init
loop-assignment-init c = record { marks = λ place. sym (or_false (slice_index_or c.args.unknown.now.items place false)); ends = λ ends. ends }

pub loop-assignment-preserved : goal.loop-assignment-preserved
loop-assignment-preserved c = record {
  marks = λ place.
      let before = slice_index_or c.loop-assignment.unknown.items place false in
      marked_more (λ (a : Assignment). nat_eq a.column place) c.args.assignments.now c.loop-assignment.assignment-index c.assignment-item.result
      (slice_index_or c.args.unknown.now.items place false) before _
      c.loop-assignment-test.true (c.loop-assignment.invariant.marks place)
      (c.in_ok-mark.ensures.marks place ∙ ap (λ (a : Assignment). before || nat_eq a.column place) c.assignment-item.is);
  ends = λ ends. c.in_ok-mark.ensures.ends (c.loop-assignment.invariant.ends ends);
}

pub returns-clause-marks : goal.returns-clause-marks
returns-clause-marks c = λ place.
    let was = slice_index_or c.args.unknown.now.items place false in
    c.loop-assignment.invariant.marks place
    ∙ ap (λ all. was || list_any (λ (a : Assignment). nat_eq a.column place) all) (take_all c.loop-assignment.assignment-index c.args.assignments.now c.loop-assignment-test.false)
