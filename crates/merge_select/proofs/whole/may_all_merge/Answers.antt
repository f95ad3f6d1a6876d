use Rattle.std.proofs.Common.{◌∙◌, sym, arith}
use Rattle.std.proofs.lemmas.Bool.{false≢true}
use Rattle.mutation_queue.specs.Queue.{mutations_of}
use Rattle.merge_select.proofs.Wholes.{all_merge, merge_more, parted_here}
use Rattle.merge_select.proofs.whole.may_all_merge.Goals as goal

pub returns-then-not-may_merge : goal.returns-then-not-may_merge
returns-then-not-may_merge g c =
    parted_here (mutations_of c.args.queue.now c.args.table.now) c.args.parts.now c.loop-next.next c.index-parts-place.result c.index-parts-next.result (omega arith) (omega arith)
    (λ may. false≢true (sym c.if-not-may_merge.true ∙ c.may_merge.ensures.1 may))

pub loop-next-preserved : goal.loop-next-preserved
loop-next-preserved g c =
    merge_more (mutations_of c.args.queue.now c.args.table.now) c.args.parts.now c.loop-next.next c.index-parts-place.result c.index-parts-next.result (omega arith) (omega arith)
    c.loop-next.invariant (c.may_merge.ensures.0 c.if-not-may_merge.false)

pub returns : goal.returns
returns g c = all_merge (mutations_of c.args.queue.now c.args.table.now) c.args.parts.now c.loop-next.next (omega arith) c.loop-next.invariant
