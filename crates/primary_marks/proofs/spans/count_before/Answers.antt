use Rattle.std.proofs.Common.{◌≡◌, [], ◌+◌, ◌-◌, ◌/◌, ◌<◌, Some, length, slice_get, sym, ◌∙◌, arith}
use Rattle.mt_values.specs.Cells.{value_of}
use Rattle.mt_values.specs.Grid.{column_of}
use Rattle.primary_marks.specs.Spans.{stands_before}
use Rattle.primary_marks.proofs.GranuleBoxes.{key_reaches}
use Rattle.primary_marks.proofs.Rising.{ends_met, fails_from, first_in_column, firsts_fall, passes_to, past_end}
use Rattle.primary_marks.proofs.spans.count_before.Goals as goal

pub loop-low-init : goal.loop-low-init
loop-low-init c =
    let keys = c.args.marks.now in
    record {
      order = omega arith;
      few = omega (arith, c.len-high.ensures);
      before = λ i x below is. absurd (omega (arith, below));
      after = past_end keys c.requires c.args.edge c.args.test.now c.len-high.result c.len-high.ensures;
    }

pub key_cell-requires-clause-key : goal.key_cell-requires-clause-key
key_cell-requires-clause-key c = omega (arith, c.loop-low-test.true, c.loop-low.invariant.few)

pub key_cell-requires-clause-column : goal.key_cell-requires-clause-column
key_cell-requires-clause-column c =
    let keys = c.args.marks.now in
    let below : c.loop-low.low + (c.loop-low.high - c.loop-low.low) / 2 < length keys = omega (arith, c.loop-low-test.true, c.loop-low.invariant.few) in
    key_reaches keys (c.loop-low.low + (c.loop-low.high - c.loop-low.low) / 2) 0 below (c.requires.some (c.loop-low.low + (c.loop-low.high - c.loop-low.low) / 2) [] below)

pub loop-low-preserved-then-stands_before : goal.loop-low-preserved-then-stands_before
loop-low-preserved-then-stands_before c =
    let keys = c.args.marks.now in
    let middle = c.loop-low.low + (c.loop-low.high - c.loop-low.low) / 2 in
    let p = stands_before c.args.edge c.args.test.now in
    let there : slice_get (column_of 0 keys) middle ≡ Some (value_of c.key_cell.result) = first_in_column keys c.requires middle (value_of c.key_cell.result) c.key_cell.ensures in
    record {
      order = omega (arith, c.loop-low-test.true);
      few = c.loop-low.invariant.few;
      before = passes_to p (column_of 0 keys) middle (value_of c.key_cell.result) (firsts_fall keys c.requires c.args.edge c.args.test.now) there (sym c.stands_before.ensures ∙ c.if-stands_before.true);
      after = c.loop-low.invariant.after;
    }

pub loop-low-preserved : goal.loop-low-preserved
loop-low-preserved c =
    let keys = c.args.marks.now in
    let middle = c.loop-low.low + (c.loop-low.high - c.loop-low.low) / 2 in
    let p = stands_before c.args.edge c.args.test.now in
    let there : slice_get (column_of 0 keys) middle ≡ Some (value_of c.key_cell.result) = first_in_column keys c.requires middle (value_of c.key_cell.result) c.key_cell.ensures in
    record {
      order = omega (arith, c.loop-low-test.true);
      few = omega (arith, c.loop-low-test.true, c.loop-low.invariant.few);
      before = c.loop-low.invariant.before;
      after = fails_from p (column_of 0 keys) middle (value_of c.key_cell.result) (firsts_fall keys c.requires c.args.edge c.args.test.now) there (sym c.stands_before.ensures ∙ c.if-stands_before.false);
    }

pub returns : goal.returns
returns c =
    ends_met c.args.marks.now c.requires c.args.edge c.args.test.now c.loop-low.low c.loop-low.high c.loop-low.invariant.order c.loop-low-test.false c.loop-low.invariant.few
    c.loop-low.invariant.before c.loop-low.invariant.after
