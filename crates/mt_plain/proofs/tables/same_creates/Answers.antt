use Rattle.std.proofs.Common.{sym, ◌∙◌}
use Rattle.mt_plain.proofs.Equal.{creates_alike, creates_apart}
use Rattle.mt_plain.proofs.tables.same_creates.Goals as goal

pub returns-then-eq : goal.returns-then-eq
returns-then-eq c = creates_alike c.args.a.now c.args.b.now c.eq-then-eq.result (sym c.eq.ensures ∙ c.if-eq.true) c.eq-then-eq.ensures

pub returns-else-eq : goal.returns-else-eq
returns-else-eq c = creates_apart c.args.a.now c.args.b.now c.eq.result c.eq.ensures c.if-eq.false
