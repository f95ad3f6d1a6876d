use Rattle.std.proofs.Common.{◌≡◌, ◌∙◌, ◌∷◌, [], ◌++◌, All, true, if◌then◌else◌, ap, sym, subst}
use Rattle.std.specs.Result.{is_ok}
use Rattle.std.proofs.lemmas.List.Elements.{All-push}
use Rattle.run_memory.specs.Events.{Fits}
use Rattle.run_memory.proofs.answer.Answer.events.Goals as goal

pub loop-text-preserved : goal.loop-text-preserved
loop-text-preserved c =
    let before = c.loop-text.events.items in
    let more = before ++ c.in_ok-event.event ∷ [] in
    let taken : is_ok c.push.result ≡ true = sym c.in_ok-ok.ensures.variant in
    let items : c.push.new.self.items ≡ more = c.push.ensures.items ∙ ap (λ b. if b then more else before) taken in
    subst (All Fits) (sym items) (All-push Fits before c.in_ok-event.event c.loop-text.invariant c.in_ok-event.ensures)
