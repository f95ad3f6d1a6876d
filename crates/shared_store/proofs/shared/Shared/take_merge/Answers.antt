use Rattle.std.proofs.Common.{List, sym, subst}
use Rattle.mt_values.specs.declared.command.Entry.{Entry}
use Rattle.shared_store.specs.Turns.{AtTurn}
use Rattle.shared_store.specs.Works.{HasPair}
use Rattle.shared_store.proofs.Taking.{both_found}
use Rattle.shared_store.proofs.shared.Shared.take_merge.Goals as goal

-- the turn found the list that the work's note has
pub returns-clause-of : goal.returns-clause-of
returns-clause-of g c =
    both_found _ _ _ c.take_merge.result
    (λ w noted of. subst (λ (l : List Entry). AtTurn g.F.Dir.files g.B.Names.given g.B.Room.before g.B.Names.opening l g.B.Names.ledgers.parts c.args.share.now (λ store failed. HasPair g.B.Names.opening.policy c.args.scope store w.taken)) (sym noted.0) of)
    c.take_merge.ensures.noted c.take_merge.ensures.of
