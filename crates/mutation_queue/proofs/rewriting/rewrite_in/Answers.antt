use Rattle.std.proofs.Common.{length, refl, sym, ◌∙◌}
use Rattle.std.proofs.lemmas.Option.{slice_get_read}
use Rattle.mutation_queue.specs.Queue.{mutations_of}
use Rattle.mutation_queue.proofs.Waiting.{none_more, none_past, rewrite_is}
use Rattle.mutation_queue.proofs.rewriting.rewrite_in.Goals as goal

pub loop-first-preserved : goal.loop-first-preserved
loop-first-preserved g c =
    let parts = c.args.parts.now in
    let kept = c.index-parts-first.result in
    none_more (mutations_of c.args.queue.now c.args.table.now) parts c.loop-first.first kept
    (slice_get_read parts (length parts) c.loop-first.first kept refl c.loop-first-test.true c.index-parts-first.is) (sym c.waits.ensures ∙ c.in_default.is) c.loop-first.invariant

pub returns-in-Some-clause-some : goal.returns-in-Some-clause-some
returns-in-Some-clause-some g c =
    let parts = c.args.parts.now in
    let kept = c.index-parts-first.result in
    rewrite_is (mutations_of c.args.queue.now c.args.table.now) parts (record { table = c.args.table; name = kept.name; first = c.loop-first.first; upto = c.in-Some.upto }) kept
    (slice_get_read parts (length parts) c.loop-first.first kept refl c.loop-first-test.true c.index-parts-first.is) (sym c.waits.ensures ∙ c.in-Some.is) refl c.loop-first.invariant

pub returns : goal.returns
returns g c = record {
  none = none_past (mutations_of c.args.queue.now c.args.table.now) c.args.parts.now c.loop-first.first c.loop-first-test.false c.loop-first.invariant;
  some = tt;
  table = tt;
}
