use Rattle.primary_marks.proofs.SpanMisses.{all_misses, span_misses}
use Rattle.primary_marks.proofs.spans.span_of.Goals as goal

pub returns-then-not-rise : goal.returns-then-not-rise
returns-then-not-rise c = all_misses c.args.part.now c.args.condition.now c.all.result c.all.ensures

pub returns : goal.returns
returns c = span_misses c.args.part.now (c.rise.ensures c.if-not-rise.false) c.args.condition.now c.span_left.result c.span_left.ensures
