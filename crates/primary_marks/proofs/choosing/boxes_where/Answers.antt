use Rattle.std.proofs.Common.{◌-◌, ◌<◌, ◌≤◌, ◌++◌, List, ap, arith, false, get_or, length}
use Rattle.std.proofs.lemmas.List.{get_or_default}
use Rattle.predicate.specs.Granules.{boxes_of, boxes_where}
use Rattle.predicate.specs.declared.extent.Extent.{Extent}
use Rattle.primary_marks.proofs.GranuleBoxes.{box_at, box_count, boxes_all, boxes_more, boxes_past, there_box}
use Rattle.primary_marks.proofs.choosing.boxes_where.Goals as goal

pub loop-granule-init : goal.loop-granule-init
loop-granule-init c =
    let boxes = boxes_of c.args.schema.now c.args.partition.now c.args.marks.now in
    ap (λ (bs : List Extent). bs ++ boxes_where boxes c.args.chosen.now) c.new-boxes.ensures

pub returns-then-granule-granules : goal.returns-then-granule-granules
returns-then-granule-granules c =
    let schema = c.args.schema.now in
    let partition = c.args.partition.now in
    let keys = c.args.marks.now in
    let end : length (boxes_of schema partition keys) ≤ c.loop-granule.granule =
    omega (arith, box_count schema partition keys, c.granules-granules.ensures, c.if-granule-granules.true) in
    boxes_past (boxes_of schema partition keys) c.args.chosen.now c.loop-granule.boxes c.loop-granule.granule c.loop-granule.invariant end

pub granule_box-requires : goal.granule_box-requires
granule_box-requires c = omega (arith, c.granules-granules.ensures, c.if-granule-granules.false)

pub loop-granule-preserved : goal.loop-granule-preserved
loop-granule-preserved c =
    let schema = c.args.schema.now in
    let partition = c.args.partition.now in
    let keys = c.args.marks.now in
    let granule = c.loop-granule.granule in
    let below : granule < length keys - 1 = omega (arith, c.granules-granules.ensures, c.if-granule-granules.false) in
    boxes_more (boxes_of schema partition keys) c.args.chosen.now c.loop-granule.boxes c.push.new.self granule (box_at schema partition keys granule) c.in_ok-granule_box.field-0 (get_or c.args.chosen.now granule false)
    c.loop-granule.invariant c.loop-granule-test.true (get_or_default c.args.chosen.now granule false (get_or c.args.chosen.now granule false) c.loop-granule-test.true) (there_box schema partition keys granule below) c.in_ok-granule_box.ensures c.in_ok-push.ensures.ok

pub returns : goal.returns
returns c =
    boxes_all (boxes_of c.args.schema.now c.args.partition.now c.args.marks.now) c.args.chosen.now c.loop-granule.boxes c.loop-granule.granule c.loop-granule.invariant c.loop-granule-test.false
