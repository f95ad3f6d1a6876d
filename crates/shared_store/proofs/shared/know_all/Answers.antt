use Rattle.std.proofs.Common.{[], ◌∷◌, ◌++◌, List, All, sym, ap, ◌∙◌, subst, append_assoc}
use Rattle.std.proofs.lemmas.List.Elements.{All-append, All-cons, All-nil, All-tail}
use Rattle.history_seat.specs.declared.view.View.{View}
use Rattle.history_seat.specs.Turns.{IsSession}
use Rattle.shared_store.specs.Sharing.{KnowsAll, Shown}
use Rattle.shared_store.proofs.Keeping.{knows}
use Rattle.shared_store.proofs.shared.know_all.Goals as goal

pub loop-seat-preserved : goal.loop-seat-preserved
loop-seat-preserved g c =
    let h = c.in-Some.ensures.steps.0 in
    let k = c.loop-seat.invariant in
    let seat = c.in-Some.seat in
    let now = c.look.new.self in
    let rest = c.next.new.self.rest.items in
    let same = c.look.ensures.same in
    let there : All (KnowsAll now.list now.tried) c.loop-seat.yielded = subst (λ (x : Shown _). All (KnowsAll x.list x.tried) c.loop-seat.yielded) (sym same) k.1 in
    let here : KnowsAll now.list now.tried seat = subst (λ (x : Shown _). KnowsAll x.list x.tried seat) (sym same) (knows seat c.look.new.seat c.loop-seat.locked.list c.loop-seat.locked.tried c.look.ensures.looked c.look.ensures.found) in (
      same ∙ k.0,
      All-append (KnowsAll now.list now.tried) c.loop-seat.yielded (seat ∷ []) there (All-cons (KnowsAll now.list now.tried) seat [] here (All-nil (KnowsAll now.list now.tried))),
      All-tail IsSession seat rest (subst (λ (l : List View). All IsSession l) h k.2),
      append_assoc c.loop-seat.yielded (seat ∷ []) rest ∙ ap (λ l. c.loop-seat.yielded ++ l) (sym h) ∙ k.3,
    )
