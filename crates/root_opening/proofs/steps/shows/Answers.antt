use Rattle.root_opening.proofs.steps.shows.Goals as goal

pub returns : goal.returns
returns c =
    let seen = c.requires.visible c.args.part.now.table c.args.part.now.name in
    ((λ has. seen.0 (c.has.ensures.0 has)), (λ visible. c.has.ensures.1 (seen.1 visible)))
