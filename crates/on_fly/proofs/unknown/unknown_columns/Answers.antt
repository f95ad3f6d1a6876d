use Rattle.std.proofs.Common.{◌||◌, ap, sym, ◌∙◌, length, arith}
use Rattle.std.specs.Prelude.{false, slice_index_or}
use Rattle.std.proofs.lemmas.List.{take_all}
use Rattle.mt_values.specs.declared.mutation.Mutation.{Mutation}
use Rattle.mt_values.specs.Changes.{assigns, is_assigned}
use Rattle.on_fly.proofs.Marking.{marked_first}
use Rattle.on_fly.proofs.unknown.unknown_columns.Goals as goal

pub loop-mutation-init : goal.loop-mutation-init
loop-mutation-init c = record {
  columns = λ place. ap (λ marks. slice_index_or marks place false) c.new-unknown.ensures.items;
  ends = λ place last. absurd (omega (arith, ap length c.new-unknown.ensures.items, last));
}

pub loop-mutation-preserved : goal.loop-mutation-preserved
loop-mutation-preserved c = record {
  columns = λ place.
      let before = slice_index_or c.loop-mutation.unknown.items place false in
      marked_first (λ (m : Mutation). assigns m.change place) c.args.mutations.now c.loop-mutation.mutation-index c.mutation-item.result
      before _ c.loop-mutation-test.true (c.loop-mutation.invariant.columns place)
      (c.in_ok-mark_change.ensures.marks place ∙ ap (λ (m : Mutation). before || assigns m.change place) c.mutation-item.is);
  ends = c.in_ok-mark_change.ensures.ends c.loop-mutation.invariant.ends;
}

pub returns-clause-columns : goal.returns-clause-columns
returns-clause-columns c = λ place.
    c.loop-mutation.invariant.columns place ∙ ap (λ ms. is_assigned ms place) (take_all c.loop-mutation.mutation-index c.args.mutations.now c.loop-mutation-test.false)

pub returns-clause-last : goal.returns-clause-last
returns-clause-last c = λ place last.
    sym (c.loop-mutation.invariant.columns place ∙ ap (λ ms. is_assigned ms place) (take_all c.loop-mutation.mutation-index c.args.mutations.now c.loop-mutation-test.false))
    ∙ c.loop-mutation.invariant.ends place last
