use Rattle.std.proofs.Common.{◌∙◌, arith}
use Rattle.part_set.proofs.Freeing.{marked_whole, none_marked}
use Rattle.part_set.proofs.shelf.mark_all.Goals as goal

-- there is none
pub returns-then-count-eq0-clause-items : goal.returns-then-count-eq0-clause-items
returns-then-count-eq0-clause-items g c = none_marked c.args.busy c.args.parts.now.items (omega (arith, c.args.parts.now.ok.0, c.len-count.ensures, c.if-count-eq0.true))

pub returns-clause-items : goal.returns-clause-items
returns-clause-items g c = c.mark_run.ensures.items ∙ marked_whole c.args.busy c.args.parts.now.items c.len-count.result (omega (arith, c.args.parts.now.ok.0, c.len-count.ensures))
