use Rattle.std.proofs.Common.{◌<◌, ◌-◌, ◌/◌, ◌∙◌, ap, arith, length, sym}
use Rattle.std.specs.Ordering.{is_lt}
use Rattle.row_merge.specs.Heads.{ahead_of}
use Rattle.row_merge.proofs.Ranking.{lower_half, upper_half}
use Rattle.row_merge.proofs.heads.place_of.Goals as goal

pub halves-preserved-then-is_lt : goal.halves-preserved-then-is_lt
halves-preserved-then-is_lt c =
    let m = c.halves.high - 1 - (c.halves.high - c.halves.low - 1) / 2 in
    let below : m < length c.args.ranked.now = omega (arith, c.halves.invariant.high, c.halves-test.true) in
    record {
      low = omega (arith, c.halves.invariant.low, c.halves-test.true);
      high = c.halves.invariant.high;
      earlier = lower_half c.args.places.now (ahead_of c.args.cursors.now) c.args.ranked.now c.args.input m below c.requires.falls (sym (ap is_lt c.cmp_leads.ensures) ∙ sym c.is_lt.ensures ∙ c.if-is_lt.true);
      later = c.halves.invariant.later;
    }

pub halves-preserved : goal.halves-preserved
halves-preserved c =
    let m = c.halves.high - 1 - (c.halves.high - c.halves.low - 1) / 2 in
    let below : m < length c.args.ranked.now = omega (arith, c.halves.invariant.high, c.halves-test.true) in
    record {
      low = omega (arith, c.halves.invariant.low, c.halves-test.true);
      high = omega (arith, c.halves.invariant.high, c.halves-test.true);
      earlier = c.halves.invariant.earlier;
      later = upper_half c.args.places.now (ahead_of c.args.cursors.now) c.args.ranked.now c.args.input m below c.requires.falls (sym (ap is_lt c.cmp_leads.ensures) ∙ sym c.is_lt.ensures ∙ c.if-is_lt.false);
    }
