use Rattle.std.proofs.Common.{◌∙◌, not, is_some, ap, sym, subst}
use Rattle.std.proofs.lemmas.Bool.{false≢true}
use Rattle.merge_workers.specs.shared_store.Handed.{GivesSchema}
use Rattle.session.proofs.optimizes.partitions_there.Goals.{else-text-via-then-text+else-is_none, else-text-via-else-text}
use Rattle.session.proofs.optimizes.partitions_there.Goals as goal

-- no part is copied
pub returns-clause-there : goal.returns-clause-there
returns-clause-there g c =
    let gives = subst (GivesSchema g.B.Names.given g.B.Room.before g.B.Names.opening.tables c.schema.new.seat.list c.args.text.now.table) c.in-Some.is c.in_ok-found.ensures.schema in
    (gives.2, ap is_some (sym gives.0))

pub returns-in_default-clause-there : goal.returns-in_default-clause-there
returns-in_default-clause-there g c =
    let gives = subst (GivesSchema g.B.Names.given g.B.Room.before g.B.Names.opening.tables c.schema.new.seat.list c.args.text.now.table) c.in_default.is c.in_ok-found.ensures.schema in
    (gives.2, ap is_some (sym gives.0))

pub returns-clause-listed : goal.returns-clause-listed
returns-clause-listed g c = λ whole none.
    elim c.else-text.branch [
      | else-text-via-then-text+else-is_none w ↦ absurd (false≢true (sym (ap is_some none) ∙ w.is_none.ensures ∙ ap not w.if-is_none.false))
      | else-text-via-else-text w ↦ absurd (false≢true (sym w.if-text.false ∙ whole))
    ]
