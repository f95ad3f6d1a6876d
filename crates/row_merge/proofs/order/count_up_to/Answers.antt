use Rattle.std.proofs.Common.{◌∙◌, arith, sym}
use Rattle.mt_values.specs.Order.{HasPlaces}
use Rattle.row_merge.proofs.Lent.{all_at, count_goes_on, count_stops}
use Rattle.row_merge.proofs.order.count_up_to.Goals as goal

pub returns-then-is_gt-clause-count : goal.returns-then-is_gt-clause-count
returns-then-is_gt-clause-count c = λ whole all.
    count_stops c.args.places.now c.args.row.now c.args.rows.now c.loop-other.other-index c.loop-other.count c.other-item.result c.cmp_rows.result (omega arith) c.other-item.is
    (c.cmp_rows.ensures (all_at (HasPlaces c.args.places.now) c.args.rows.now c.loop-other.other-index c.other-item.result (omega arith) c.other-item.is all) whole)
    (sym c.is_gt.ensures ∙ c.if-is_gt.true) (c.loop-other.invariant.more whole all)

pub loop-other-preserved : goal.loop-other-preserved
loop-other-preserved c = record {
  number = omega (arith, c.loop-other.invariant.number);
  more = λ whole all.
      count_goes_on c.args.places.now c.args.row.now c.args.rows.now c.loop-other.other-index c.loop-other.count c.other-item.result c.cmp_rows.result (omega arith) c.other-item.is
      (c.cmp_rows.ensures (all_at (HasPlaces c.args.places.now) c.args.rows.now c.loop-other.other-index c.other-item.result (omega arith) c.other-item.is all) whole)
      (sym c.is_gt.ensures ∙ c.if-is_gt.false) (c.loop-other.invariant.more whole all);
}
