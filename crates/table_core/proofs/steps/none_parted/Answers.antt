use Rattle.mutation_queue.specs.Queue.{mutations_of}
use Rattle.table_core.proofs.Neighbours.{none_parted_begun, none_parted_end, none_parted_first, none_parted_next, none_parted_not}
use Rattle.table_core.proofs.steps.none_parted.Goals as goal

pub returns-in_default : goal.returns-in_default
returns-in_default c = none_parted_first (mutations_of c.args.queue.now c.args.table.now) c.args.sources.now c.in_default.ensures.cases

pub loop-part-init : goal.loop-part-init
loop-part-init c = none_parted_begun (mutations_of c.args.queue.now c.args.table.now) c.args.sources.now c.in-Some.rest.now c.in-Some.first.now c.in-Some.ensures.cases.0

pub loop-part-preserved : goal.loop-part-preserved
loop-part-preserved c =
    none_parted_next (mutations_of c.args.queue.now c.args.table.now) c.args.sources.now c.in-Some.rest.now c.loop-part.last c.loop-part.part-index
    c.part-item.result c.loop-part-test.true c.part-item.is c.loop-part.invariant (c.may_merge.ensures.0 c.if-not-may_merge.false)

pub returns-then-not-may_merge : goal.returns-then-not-may_merge
returns-then-not-may_merge c =
    none_parted_not (mutations_of c.args.queue.now c.args.table.now) c.args.sources.now c.in-Some.rest.now c.loop-part.last c.loop-part.part-index
    c.part-item.result c.loop-part-test.true c.part-item.is c.loop-part.invariant (λ may. let yes = c.may_merge.ensures.1 may in let never = c.if-not-may_merge.true in cc)

pub returns : goal.returns
returns c =
    none_parted_end (mutations_of c.args.queue.now c.args.table.now) c.args.sources.now c.in-Some.rest.now c.loop-part.last c.loop-part.part-index c.loop-part-test.false c.loop-part.invariant
