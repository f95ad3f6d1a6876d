use Rattle.std.proofs.Common.{◌∙◌, ℕ, List, Some, ap, sym, slice_get}
use Rattle.std.proofs.lemmas.Option.{slice_get-get_or, slice_get_past}
use Rattle.part_reader.proofs.KeptColumns.{kept_places, no_places}
use Rattle.part_reader.proofs.comparing.are_places.Goals as goal

pub returns-in-Some : goal.returns-in-Some
returns-in-Some c =
    let places = c.args.loaded.now.places in
    let found = c.in-Some.ensures.lookup in
    let kept = c.in-Some.kept.now in
    kept_places places c.args.number kept c.args.starts.now c.eq.result
    (ap (λ (ps : List (List ℕ)). slice_get ps c.args.number) (sym c.as_slice.ensures) ∙ slice_get-get_or c.as_slice.result.now c.args.number kept found.3.0 ∙ ap Some (sym found.1)) c.eq.ensures

pub returns-in-None : goal.returns-in-None
returns-in-None c =
    no_places c.args.loaded.now.places c.args.number c.args.starts.now (ap (λ (ps : List (List ℕ)). slice_get ps c.args.number) (sym c.as_slice.ensures) ∙ slice_get_past c.as_slice.result.now c.args.number c.in-None.ensures.lookup.3)
