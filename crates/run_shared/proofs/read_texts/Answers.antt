use Rattle.std.proofs.Common.{All, sym, subst}
use Rattle.std.proofs.lemmas.List.Elements.{All-push}
use Rattle.session.specs.mt_model.Written.{IsWritten}
use Rattle.run_shared.proofs.read_texts.Goals as goal

pub loop-text-preserved : goal.loop-text-preserved
loop-text-preserved c =
    subst (All IsWritten) (sym c.in-Ok.ensures.items) (All-push IsWritten c.loop-text.statements.items c.in_ok-statement.statement c.loop-text.invariant c.in_ok-statement.ensures)
