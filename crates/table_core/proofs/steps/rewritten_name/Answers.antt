use Rattle.table_core.proofs.Neighbours.{rewrite_named, rewrite_unnamed}
use Rattle.table_core.proofs.steps.rewritten_name.Goals as goal

pub returns-then-sources-ne1 : goal.returns-then-sources-ne1
returns-then-sources-ne1 c = rewrite_unnamed c.args.sources.now c.args.upto c.if-sources-ne1.true

pub returns : goal.returns
returns c = rewrite_named c.args.sources.now c.args.upto c.index-sources-0.result c.rewrite.result c.if-sources-ne1.false c.rewrite.ensures
