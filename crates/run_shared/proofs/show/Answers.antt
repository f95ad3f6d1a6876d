use Rattle.std.proofs.Common.{◌++◌, ◌∷◌, [], ◌∙◌, List, All, refl, sym, ap, subst, arith}
use Rattle.std.proofs.lemmas.List.Elements.{All-cons, All-nil}
use Rattle.session.specs.shared_store.history_seat.declared.view.View.{View}
use Rattle.session.specs.shared_store.history_seat.Turns.{IsSession}
use Rattle.session.specs.shared_store.history_seat.Views.{counted}
use Rattle.session.specs.shared_store.Tallies.{Tally}
use Rattle.session.specs.Answers.{KnowsOwn}
use Rattle.run_shared.proofs.show.Goals as goal

-- session 0 once it has made session 1
pub speak-said-requires-clause-session : goal.speak-said-requires-clause-session
speak-said-requires-clause-session g c κs within = subst IsSession (sym (c.new_session-other.ensures.seat ∙ ap counted c.new-shared.ensures.seat)) (refl, refl)

pub speak-said-requires-clause-own : goal.speak-said-requires-clause-own
speak-said-requires-clause-own g c κs within = subst KnowsOwn (sym (c.new_session-other.ensures.seat ∙ ap counted c.new-shared.ensures.seat)) refl

pub speak-said-requires-clause-parts : goal.speak-said-requires-clause-parts
speak-said-requires-clause-parts g c κs within = let is = ap (λ (t : Tally). t.parts) c.new-shared.ensures.share in omega (arith, is, c.requires.parts)

pub speak-said-requires-clause-out : goal.speak-said-requires-clause-out
speak-said-requires-clause-out g c κs within = ap (λ (t : Tally). t.out) c.new-shared.ensures.share

-- both are given back as sessions
pub finish-disk-requires-after_bounds : goal.finish-disk-requires-after_bounds
finish-disk-requires-after_bounds g c κs within =
    let zero = c.speak-said.new.seat in
    let one = c.run_other-more.new.seat in
    let first = c.push_reserved.ensures.items ∙ ap (λ (l : List View). l ++ zero ∷ []) c.in-Ok.ensures.items in
    let items = c.push_reserved-2.ensures.items ∙ ap (λ (l : List View). l ++ one ∷ []) first in
    subst (λ (l : List View). All IsSession l) (sym items)
    (All-cons IsSession zero (one ∷ []) c.speak-said.ensures.session (All-cons IsSession one [] c.run_other-more.ensures.session (All-nil IsSession)))
