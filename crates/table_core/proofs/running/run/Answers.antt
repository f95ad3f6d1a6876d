use Rattle.std.proofs.Common.{◌≡◌, ◌++◌, ◌∷◌, [], List, append-nil, arith, length, refl, sym, ap, subst, ◌∙◌}
use Rattle.std.specs.Iterator.{Yields}
use Rattle.std.specs.Vec.Iter.{into_iter_items, into_iter_len, into_iter_steps}
use Rattle.std.specs.declared.vec.IntoIter.{IntoIter}
use Rattle.table_core.specs.declared.event.Event.{Event}
use Rattle.table_core.specs.declared.event.Outcome.{Outcome}
use Rattle.table_core.specs.Core.{IsCore, empty_core}
use Rattle.table_core.specs.Runs.{MayRun, Runs}
use Rattle.table_core.proofs.Telling.{may_come, run_accepted, run_entries, run_history, run_known, run_push, run_tells_left, run_tells_snapshots}
use Rattle.table_core.proofs.running.run.Goals as goal

-- what the iterator of a vector has given is a front of its items
taken_front : {X A : Type 0} (s : IntoIter X A) (xs : List X) (t : IntoIter X A) → Yields into_iter_steps s xs t → into_iter_items s ≡ xs ++ into_iter_items t
taken_front s [] t y = ap into_iter_items y
taken_front s (x ∷ xs) t y = y.1.0 ∙ ap (λ ys. x ∷ ys) (taken_front y.0 xs t y.2)

pub step-requires : goal.step-requires
step-requires c =
    let began = c.into_iter-event-iterator in
    let events = c.loop-event.yielded in
    let event = c.in-Some.event in
    let rest = into_iter_items c.next.new.self in
    let all : c.args.events.items ≡ events ++ event ∷ rest =
    sym began.ensures.into_iter_gives.0 ∙ (taken_front began.result events c.loop-event.event-iterator c.loop-event.yielded_by ∙ ap (λ (es : List Event). events ++ es) c.in-Some.ensures.steps.0) in
    may_come events c.loop-event.outcomes.items empty_core c.loop-event.state event rest (subst (MayRun empty_core) all c.requires) c.loop-event.invariant.ran

pub loop-event-preserved : goal.loop-event-preserved
loop-event-preserved c = record {
  ran = subst (λ (os : List Outcome). Runs empty_core (c.loop-event.yielded ++ c.in-Some.event ∷ []) os c.step.new.state) (sym c.in_ok-push.ensures.items)
      (run_push c.loop-event.yielded c.loop-event.outcomes.items empty_core c.loop-event.state c.step.new.state c.in-Some.event c.in_ok-step.field-0 c.loop-event.invariant.ran c.in_ok-step.ensures.gives);
  core = c.in_ok-step.ensures.core;
}

nothing_left : {X : Type 0} (xs : List X) → length xs ≡ 0 → xs ≡ []
nothing_left [] none = refl
nothing_left (x ∷ xs) none = absurd (omega (arith, none))

-- an iterator that has nothing left gave all
all_given : {X A : Type 0} (s : IntoIter X A) (xs : List X) (t : IntoIter X A) (items : List X) → into_iter_items s ≡ items → Yields into_iter_steps s xs t → into_iter_len t ≡ 0 → xs ≡ items
all_given s xs t items begun y none =
    let empty : into_iter_items t ≡ [] = nothing_left (into_iter_items t) (sym t.rest.ok.0 ∙ none) in
    sym (append-nil xs) ∙ (ap (λ ys. xs ++ ys) (sym empty) ∙ (sym (taken_front s xs t y) ∙ begun))

pub returns : goal.returns
returns c =
    let began = c.into_iter-event-iterator in
    let outcomes = c.loop-event.outcomes.items in
    let all = all_given began.result c.loop-event.yielded c.loop-event.event-iterator c.args.events.items began.ensures.into_iter_gives.0 c.loop-event.yielded_by c.in-None.ensures.steps.0 in
    let ran : Runs empty_core c.args.events.items outcomes c.loop-event.state =
    subst (λ (es : List Event). Runs empty_core es outcomes c.loop-event.state) all c.loop-event.invariant.ran in
    let begins : IsCore empty_core = subst IsCore c.new-state.ensures.empty c.new-state.ensures.core in
    record {
      run = ran;
      core = c.loop-event.invariant.core;
      read = run_tells_left c.args.events.items outcomes empty_core c.loop-event.state begins c.requires ran;
      taken = run_tells_snapshots c.args.events.items outcomes empty_core c.loop-event.state ran;
      known = run_known c.args.events.items outcomes empty_core c.loop-event.state ran;
      history = run_history c.args.events.items outcomes empty_core c.loop-event.state ran;
      accepted = run_accepted c.args.events.items outcomes empty_core c.loop-event.state ran;
      entries = run_entries c.args.events.items outcomes empty_core c.loop-event.state ran;
    }
