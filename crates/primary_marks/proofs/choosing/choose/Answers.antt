use Rattle.std.proofs.Common.{◌+◌, ap, ◌∙◌, false, get_or, map}
use Rattle.std.proofs.lemmas.List.{get_or_default, take_all}
use Rattle.predicate.specs.Boxes.{can}
use Rattle.predicate.specs.Granules.{boxes_of}
use Rattle.predicate.specs.declared.extent.Can.{Can}
use Rattle.primary_marks.proofs.MarkedRows.{map-map, map_more}
use Rattle.primary_marks.proofs.choosing.choose.Goals as goal

pub loop-answer-preserved : goal.loop-answer-preserved
loop-answer-preserved c =
    let items = c.deref-answer-items.result.now in
    let none : Can = record { yes = false; no = false } in
    let answer = get_or items c.loop-answer.answer-index none in
    record {
      made = map_more (λ (a : Can). a.yes) items c.loop-answer.answer-index answer c.loop-answer.chosen.items c.push_reserved.new.self.items c.loop-answer-test.true
          (get_or_default items c.loop-answer.answer-index none answer c.loop-answer-test.true) c.loop-answer.invariant.made c.push_reserved.ensures.items;
      count = c.push_reserved.ensures.len ∙ ap (λ n. n + 1) c.loop-answer.invariant.count;
      room = c.push_reserved.ensures.capacity ∙ c.loop-answer.invariant.room;
    }

pub returns : goal.returns
returns c =
    let boxes = boxes_of c.args.schema.now c.args.partition.now c.args.marks.now in
    c.loop-answer.invariant.made
    ∙ ap (map (λ (a : Can). a.yes)) (take_all c.loop-answer.answer-index c.deref-answer-items.result.now c.loop-answer-test.false ∙ c.deref-answer-items.ensures.value ∙ c.in_ok-answers.ensures)
    ∙ map-map (λ (a : Can). a.yes) (can c.args.condition.now) boxes
