use Rattle.std.proofs.Common.{◌≡◌, ◌∙◌, ◌++◌, ◌∷◌, [], Some, None, length, slice_get, sym, ap, arith, subst}
use Rattle.std.proofs.Math.ListN.{set}
use Rattle.std.proofs.lemmas.List.{get_or_default}
use Rattle.std.proofs.lemmas.Option.{slice_get-get_or}
use Rattle.final_fold.specs.Picks.{AreFound}
use Rattle.final_fold.proofs.Picking.{found_push}
use Rattle.final_fold.proofs.picked.find_or_add.Goals as goal

pub returns-clause-found : goal.returns-clause-found
returns-clause-found c =
    let found = c.args.found.now.items in
    let read = c.args.read.now.items in
    let place = c.args.place in
    let free : slice_get found place ≡ Some None = slice_get-get_or found place None c.requires.within ∙ ap Some (get_or_default found place None c.index.result.now c.requires.within ∙ sym c.index.ensures ∙ c.in_default.is) in
    let at : length read ≡ c.in-Ok.at = omega (arith, c.len.ensures, c.in-Ok.ensures) in
    subst (AreFound (set found place (Some c.in-Ok.at))) (sym c.in_ok-push.ensures.items)
    (subst (λ n. AreFound (set found place (Some n)) (read ++ place ∷ [])) at (found_push found read place c.requires.found free))
