use Rattle.durable_commit.proofs.SameLists.{begun_there}
use Rattle.durable_commit.proofs.Settling.{published_noted, unsettled_begun}
use Rattle.durable_commit.proofs.commits.commit.Goals as goal

-- it was not settled
pub returns-in-Err-clause-turn : goal.returns-in-Err-clause-turn
returns-in-Err-clause-turn g c =
    unsettled_begun c.args.name.now c.args.sealed c.args.entry _ _ _ _ _ _ (g.A.Annals.told c.args.annals.now) (g.A.Annals.told c.begin.new.self) c.begin.ensures.told
    c.in-Err.error (c.in-Err.ensures.turn (g.A.Annals.told c.begin.new.self))

-- it was
pub note-requires-clause-begun : goal.note-requires-clause-begun
note-requires-clause-begun g c κs within = begun_there (g.A.Annals.told c.args.annals.now) _ _ c.begin.ensures.told κs within

pub returns-in-Ok-clause-turn : goal.returns-in-Ok-clause-turn
returns-in-Ok-clause-turn g c =
    published_noted c.args.name.now c.args.sealed c.args.entry _ _ _ _ _ _ (g.A.Annals.told c.args.annals.now) (g.A.Annals.told c.begin.new.self) c.begin.ensures.told
    (g.A.Annals.told c.note.new.self) c.mark.result c.mark.ensures c.note.ensures.told (c.in-Ok.ensures.turn (g.A.Annals.told c.begin.new.self))
