use Rattle.std.proofs.Common.{◌≡◌, ◌+◌, ◌-◌, ◌<◌, ap, sym, ◌∙◌, arith, length, map}
use Rattle.std.specs.List.{range_with_len}
use Rattle.predicate.specs.Boxes.{can}
use Rattle.primary_marks.specs.Spans.{missed}
use Rattle.primary_marks.proofs.GranuleBoxes.{answer_at, answers_by_place, answers_more, box_at, box_is, there_box}
use Rattle.primary_marks.proofs.SpanMisses.{not_contained}
use Rattle.primary_marks.proofs.choosing.answers.Goals as goal

pub loop-granule-preserved-then-not-contains : goal.loop-granule-preserved-then-not-contains
loop-granule-preserved-then-not-contains c =
    let schema = c.args.part.now.schema.now in
    let partition = c.args.part.now.partition.now in
    let keys = c.args.part.now.marks.now in
    let granule = c.loop-granule.granule in
    let below : granule < length keys - 1 = omega (arith, c.loop-granule-test.true, c.granules-granules.ensures) in
    let outside = not_contained c.span_of-span.result granule c.contains.result c.contains.ensures c.if-not-contains.true in
    let is = c.span_of-span.ensures granule (box_at schema partition keys granule) outside (there_box schema partition keys granule below) in
    record {
      answers = answers_more schema partition c.args.condition.now keys granule c.loop-granule.answers.items c.push_reserved.new.self.items missed
          c.loop-granule.invariant.answers c.push_reserved.ensures.items (sym is);
      count = c.push_reserved.ensures.len ∙ ap (λ n. n + 1) c.loop-granule.invariant.count;
      room = c.push_reserved.ensures.capacity ∙ c.loop-granule.invariant.room;
    }

pub loop-granule-preserved : goal.loop-granule-preserved
loop-granule-preserved c =
    let schema = c.args.part.now.schema.now in
    let partition = c.args.part.now.partition.now in
    let keys = c.args.part.now.marks.now in
    let granule = c.loop-granule.granule in
    let box = box_is schema partition keys granule c.between-ranges.result c.in_ok-extent.extent c.between-ranges.ensures c.in_ok-extent.ensures in
    record {
      answers = answers_more schema partition c.args.condition.now keys granule c.loop-granule.answers.items c.push_reserved-in-loop-granule.new.self.items c.can.result
          c.loop-granule.invariant.answers c.push_reserved-in-loop-granule.ensures.items (c.can.ensures ∙ ap (can c.args.condition.now) box);
      count = c.push_reserved-in-loop-granule.ensures.len ∙ ap (λ n. n + 1) c.loop-granule.invariant.count;
      room = c.push_reserved-in-loop-granule.ensures.capacity ∙ c.loop-granule.invariant.room;
    }

pub returns : goal.returns
returns c =
    let schema = c.args.part.now.schema.now in
    let partition = c.args.part.now.partition.now in
    let keys = c.args.part.now.marks.now in
    let all : c.loop-granule.granule ≡ length keys - 1 = omega (arith, c.loop-granule-test.false, c.loop-granule.auto.granule-end, c.granules-granules.ensures) in
    c.loop-granule.invariant.answers
    ∙ ap (λ n. map (answer_at schema partition c.args.condition.now keys) (range_with_len 0 n)) all
    ∙ sym (answers_by_place schema partition c.args.condition.now keys)
